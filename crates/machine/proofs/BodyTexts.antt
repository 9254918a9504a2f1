-- Some bodies of replies, as they are sent.
use Rattle.std.proofs.Common.{◌≡◌, [], ◌∷◌, codes, true, false, Some, None, refl}
use Rattle.std.specs.Fmt.{digits}
use Rattle.serde_json.proofs.OnLiterals.{serde_json_on_literals}
use Rattle.lsif.specs.declared.code.Code.TheVariants.{L06}
use Rattle.lsif.specs.declared.profile.Profile.TheVariants.{Two}
use Rattle.tags.specs.declared.code.Code.TheVariants.{T05}
use Rattle.machine.specs.declared.code.Code.TheVariants.{D01}
use Rattle.machine.specs.Reply.{refused, reply_body, dump_accepted, tags_accepted, removed, dump_refused, tags_refused, places_found, hover_found, tags_found, projects_found, profile_found}

a_dump : reply_body (dump_accepted 11) ≡ codes "{\"accepted\":\"lsif\",\"count\":11}"
unfolding digits serde_json_on_literals
a_dump = refl

some_tags : reply_body (tags_accepted 1) ≡ codes "{\"accepted\":\"tags\",\"count\":1}"
unfolding digits serde_json_on_literals
some_tags = refl

a_removal : reply_body (removed true) ≡ codes "{\"removed\":true}"
unfolding digits serde_json_on_literals
a_removal = refl

a_faulty_dump : reply_body (dump_refused (record { line = 1; code = L06 })) ≡ codes "{\"fault\":\"L06\",\"line\":1,\"text\":\"metaData missing, wrong or repeated\"}"
unfolding digits serde_json_on_literals
a_faulty_dump = refl

faulty_tags : reply_body (tags_refused (record { line = 1; code = T05 })) ≡ codes "{\"fault\":\"T05\",\"line\":1,\"text\":\"bad escape\"}"
unfolding digits serde_json_on_literals
faulty_tags = refl

no_project : reply_body (refused D01) ≡ codes "{\"fault\":\"D01\",\"text\":\"project has no dump\"}"
no_project = refl

a_place : reply_body (places_found (record {
  project = codes "app";
  place = record { uri = codes "file:///a.ts"; span = record { start = record { line = 0; character = 4 }; «end» = record { line = 0; character = 7 } } };
} ∷ []))
    ≡ codes "{\"places\":[{\"end\":{\"character\":7,\"line\":0},\"project\":\"app\",\"start\":{\"character\":4,\"line\":0},\"uri\":\"file:///a.ts\"}]}"
unfolding digits serde_json_on_literals
a_place = refl

no_contents : reply_body (hover_found None) ≡ codes "{\"contents\":null}"
no_contents = refl

some_contents : reply_body (hover_found (Some (codes "[{\"language\":\"c\",\"value\":\"f\"},\"d\"]"))) ≡ codes "{\"contents\":[{\"language\":\"c\",\"value\":\"f\"},\"d\"]}"
some_contents = refl

a_tag : reply_body (tags_found (record {
  project = codes "app";
  tag = record { line = 1; name = codes "aA\tb"; file = codes "f.c"; address = codes "/a\\/b/"; kind = Some (codes "f"); fields = [] };
} ∷ []))
    ≡ codes "{\"tags\":[{\"address\":\"/a\\\\/b/\",\"fields\":[],\"file\":\"f.c\",\"kind\":\"f\",\"line\":1,\"name\":\"aA\\tb\",\"project\":\"app\"}]}"
unfolding digits serde_json_on_literals
a_tag = refl

a_project : reply_body (projects_found (record { name = codes "app"; dump = true; tags = false } ∷ [])) ≡ codes "{\"projects\":[{\"dump\":true,\"name\":\"app\",\"tags\":false}]}"
unfolding digits serde_json_on_literals
a_project = refl

a_profile : reply_body (profile_found Two) ≡ codes "{\"profile\":2}"
unfolding digits serde_json_on_literals
a_profile = refl
