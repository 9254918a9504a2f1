-- A reader goes the way of its checker.
use Rattle.std.proofs.Common.{◌≡◌, ◌∙◌, ℕ, ◌+◌, List, [], ◌∷◌, ◌++◌, None, Ok, ap, sym, subst}
use Rattle.std.proofs.lemmas.List.{map-append}
use Rattle.tags.specs.Steps.Contents.{HasRoom, IsContent, IsCut, IsGoodNext, number_of, taken}
use Rattle.tags.specs.Fault.{Reading}
use Rattle.tags.specs.States.{IsRunning, State, Summary, add, advance, counted, listed, next, order_in, running, stopped}
use Rattle.tags.specs.Values.{ContentValue, EntryValue, TagValue, numbered, ordinary}
use Rattle.tags.specs.Views.{tag_value, tag_values}
use Rattle.tags.specs.Steps.Views.{with_kept}
use Rattle.tags.specs.declared.content.Content.TheVariants.{Ordinary}
use Rattle.tags.specs.declared.cut.Cut.{Cut}
use Rattle.tags.specs.declared.tag.Tag.{Tag}

-- the summary of a reader whose checker has this one
abbrev pub with_tags : List TagValue → Summary ℕ → Summary (List TagValue)
with_tags tags s = record { count = s.count; kept = tags; last = s.last; checked = s.checked }

pushed : (tags : List Tag) (tag : Tag) (n : ℕ) (e : EntryValue) → tag_value tag ≡ numbered n e → tag_values (tags ++ tag ∷ []) ≡ tag_values tags ++ numbered n e ∷ []
pushed tags tag n e h = map-append tag_value tags (tag ∷ []) ∙ ap (λ t. tag_values tags ++ t ∷ []) h

steps : (tags : List TagValue) (s : Summary ℕ) (x : ContentValue) (line : Reading) → line ≡ Ok x → order_in s x ≡ None → next listed (running (with_tags tags s)) line ≡ running (add listed (with_tags tags s) x)
steps tags s x line e good = ap (next listed (running (with_tags tags s))) e ∙ ap (advance listed (with_tags tags s) x) good

-- a tag more, where the checker takes its line
pub took_tag : (tags : List Tag) (tag : Tag) (old new : State ℕ) (cut : Cut) (line : Reading) → HasRoom old
    → (x : ContentValue) × IsContent (Ordinary cut) x × (line ≡ Ok x) × IsGoodNext old x
    → ((x : ContentValue) → IsContent (Ordinary cut) x → new ≡ taken old x)
    → ((e : EntryValue) → IsCut cut e → tag_value tag ≡ numbered (number_of old) e)
    → (with_kept (tag_values (tags ++ tag ∷ [])) new ≡ next listed (with_kept (tag_values tags) old) line) × IsRunning (next listed (with_kept (tag_values tags) old) line)
took_tag tags tag (stopped n c) new cut line room says takes made = absurd room
took_tag tags tag (running s) new cut line room says takes made =
    let name = cut.name.now in
    let e = says.1.0 in
    let same : says.0 ≡ ordinary name e = says.1.2 in
    let good : order_in s (ordinary name e) ≡ None = ap (order_in s) (sym same) ∙ says.3 in
    let step : next listed (running (with_tags (tag_values tags) s)) line ≡ running (add listed (with_tags (tag_values tags) s) (ordinary name e)) = steps (tag_values tags) s (ordinary name e) line (says.2 ∙ ap Ok same) good in
    let leads : new ≡ running (add counted s (ordinary name e)) = takes says.0 says.1 ∙ ap (λ x. taken (running s) x) same in
    let kept : tag_values (tags ++ tag ∷ []) ≡ tag_values tags ++ numbered (s.count + 1) e ∷ [] = pushed tags tag (s.count + 1) e (made e says.1.1) in (
      ap (with_kept (tag_values (tags ++ tag ∷ []))) leads
          ∙ ap (λ k. with_kept k (running (add counted s (ordinary name e)))) kept
          ∙ sym step,
      subst (λ (state : State (List TagValue)). IsRunning state) (sym step) tt,
    )

-- the same of the reader's fields: what was judged is what is taken
pub keeps_up : (tags' tags : List Tag) (tag : Tag) (self : State (List TagValue)) (old judged new : State ℕ) (cut : Cut) (line : Reading)
    → tags' ≡ tags ++ tag ∷ [] → self ≡ with_kept (tag_values tags) old → judged ≡ old → HasRoom old
    → (x : ContentValue) × IsContent (Ordinary cut) x × (line ≡ Ok x) × IsGoodNext old x
    → ((x : ContentValue) → IsContent (Ordinary cut) x → new ≡ taken judged x)
    → ((e : EntryValue) → IsCut cut e → tag_value tag ≡ numbered (number_of judged) e)
    → (with_kept (tag_values tags') new ≡ next listed self line) × IsRunning (next listed self line)
keeps_up tags' tags tag self old judged new cut line pushed view same room says takes made =
    rw (pushed, view) (took_tag tags tag old new cut line room says (λ x h. takes x h ∙ ap (λ s. taken s x) same) (λ e h. made e h ∙ ap (λ s. numbered (number_of s) e) same))
