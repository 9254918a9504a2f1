-- From each state whose dumps and tags were judged a query has a reply.
use Rattle.std.proofs.Common.{◌≡◌, ⊎_elim, Bool, true, false, List, [], map, refl}
use Rattle.std.specs.Prelude.{Option, Some, None, Ok}
use Rattle.lsif.specs.RequestKinds.{gives_places}
use Rattle.lsif.specs.declared.request_kind.RequestKind.{RequestKind}
use Rattle.lsif.specs.declared.request_kind.RequestKind.TheVariants as requests
use Rattle.dump.specs.declared.role.Role.{Role}
use Rattle.dump.specs.Fault.{IsFaultless}
use Rattle.dump.specs.Places.{HasDocument}
use Rattle.dump.specs.Progress.{DumpValue}
use Rattle.dump.specs.Requests.{Pick, RangeValue, roles_of}
use Rattle.machine.specs.State.{State}
use Rattle.machine.specs.Answers.{AnswersKind, AnswersSo, Answers, AnswersAt, AnswersHover, AnswersPlaces, no_dump, no_such_document, answered, picked, picked_hover, unpicked, unpicked_hover, profile_reply, reference_roles}
use Rattle.machine.specs.Moments.{IsIndex}
use Rattle.machine.specs.Reply.{ReplyValue, hover_found, places_found, projects_found, refused, tags_found}
use Rattle.machine.specs.Requests.{DocumentPositionValue, QueryValue, position_query, references, names, prefix, projects, profile}
use Rattle.machine.specs.declared.code.Code.TheVariants.{D01, D02}
use Rattle.machine.proofs.CoverSets.{has_pick}
use Rattle.machine.proofs.DumpSets.{has_document}
use Rattle.machine.proofs.FoundSets.{found_listing, has_hover}
use Rattle.machine.proofs.ListedSets.{name_listing, prefix_listing, project_listing}

module _ (m : State) (index : IsIndex m) where
  -- ---- at a position

  at_position : (target : DocumentPositionValue) (A : DumpValue → ReplyValue → Type 0)
      → ((dump : DumpValue) → IsFaultless (map Ok dump.elements) → HasDocument dump.elements target.uri → (r : ReplyValue) × A dump r)
      → (r : ReplyValue) × AnswersAt m target A r
  at_position target A answer = by (m.dump target.project) refl
    where
      by : (o : Option DumpValue) → m.dump target.project ≡ o → (r : ReplyValue) × AnswersAt m target A r
      by None e = (refused D01, no_dump e)
      by (Some dump) e = ⊎_elim
          (λ (has : HasDocument dump.elements target.uri). let r = answer dump (index.dumps target.project dump e) has in (r.0, answered dump e has r.1))
          (λ (other : HasDocument dump.elements target.uri → ⊥). (refused D02, no_such_document dump e other))
          (has_document dump.elements (index.dumps target.project dump e) target.uri)

  places : (request : RequestKind) (in_roles : List Role) (target : DocumentPositionValue) (dump : DumpValue) → IsFaultless (map Ok dump.elements) → HasDocument dump.elements target.uri
      → (r : ReplyValue) × AnswersPlaces m request in_roles target dump r
  places request in_roles target dump free has = by pick.0 pick.1
    where
      pick : (found : Option RangeValue) × Pick request dump.elements target.uri target.position found
      pick = has_pick dump.elements free has.0 target.uri has.1 target.position request

      by : (found : Option RangeValue) → Pick request dump.elements target.uri target.position found → (r : ReplyValue) × AnswersPlaces m request in_roles target dump r
      by None p = (places_found [], unpicked p)
      by (Some x) p = let found = found_listing m index request target.project dump free x.id in_roles in (places_found found.0, picked x p found.1)

  contents : (target : DocumentPositionValue) (dump : DumpValue) → IsFaultless (map Ok dump.elements) → HasDocument dump.elements target.uri
      → (r : ReplyValue) × AnswersHover m target dump r
  contents target dump free has = by pick.0 pick.1
    where
      pick : (found : Option RangeValue) × Pick requests.Hover dump.elements target.uri target.position found
      pick = has_pick dump.elements free has.0 target.uri has.1 target.position requests.Hover

      by : (found : Option RangeValue) → Pick requests.Hover dump.elements target.uri target.position found → (r : ReplyValue) × AnswersHover m target dump r
      by None p = (hover_found None, unpicked_hover p)
      by (Some x) p = let h = has_hover m index target.project dump free x.id in (hover_found h.0, picked_hover x p h.1)

  -- ---- queries

  of_kind : (kind : RequestKind) (target : DocumentPositionValue) (dump : DumpValue) → IsFaultless (map Ok dump.elements) → HasDocument dump.elements target.uri → (r : ReplyValue) × AnswersKind m kind target dump r
  of_kind kind target dump free has = by (gives_places kind)
    where
      by : (b : Bool) → (r : ReplyValue) × AnswersSo b m kind target dump r
      by true = places kind (roles_of kind) target dump free has
      by false = contents target dump free has

  pub has_reply : (query : QueryValue) → (r : ReplyValue) × Answers m query r
  has_reply (position_query kind target) = at_position target (AnswersKind m kind target) (of_kind kind target)
  has_reply (references target declared) = at_position target (AnswersPlaces m requests.References (reference_roles declared) target) (places requests.References (reference_roles declared) target)
  has_reply (names name asked) = let l = name_listing m index name asked in (tags_found l.0, (l.0, l.1, refl))
  has_reply (prefix start asked) = let l = prefix_listing m index start asked in (tags_found l.0, (l.0, l.1, refl))
  has_reply projects = let l = project_listing m index in (projects_found l.0, (l.0, l.1, refl))
  has_reply (profile project) = (profile_reply (m.dump project), refl)
