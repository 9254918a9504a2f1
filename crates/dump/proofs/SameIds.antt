-- When the test of two ids says that they are one.
use Rattle.std.proofs.Common.{◌≡◌, true, refl, ap, arith}
use Rattle.std.proofs.lemmas.Slice.Eq.{bytes_eq-Decides}
use Rattle.std.specs.Cmp.Lexicographic.{nat_list_eq_equiv}
use Rattle.lsif.specs.Element.{IdValue, number, text, same_id}

pub same_id_eq : (x y : IdValue) → same_id x y ≡ true → x ≡ y
same_id_eq (number m) (number n) e = let same : m ≡ n = grind (arith, e) in ap number same
same_id_eq (text s) (text t) e = ap text ((bytes_eq-Decides s t).0 e)
same_id_eq (number m) (text t) e = cc
same_id_eq (text s) (number n) e = cc

pub same_id_self : (x : IdValue) → same_id x x ≡ true
same_id_self (number m) = grind arith
same_id_self (text s) = (bytes_eq-Decides s s).1 refl

pub same_id_swap : (x y : IdValue) → same_id x y ≡ same_id y x
same_id_swap (number m) (number n) = grind arith
same_id_swap (text s) (text t) = nat_list_eq_equiv.symm s t
same_id_swap (number m) (text t) = refl
same_id_swap (text s) (number n) = refl
