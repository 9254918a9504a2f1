pub mod Floats
pub mod IdLists
pub mod ItemLists
pub mod Profiles
pub mod RequestKinds
pub mod Utf8
