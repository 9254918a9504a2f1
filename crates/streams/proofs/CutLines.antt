-- The next line of the bytes that a reader has, by the pieces that are taken of them.
use Rattle.std.proofs.Common.{◌≡◌, ◌≢◌, ◌∙◌, ℕ, ◌+◌, ◌<◌, List, [], ◌∷◌, ◌++◌, Option, Some, None, Ok, Err, true, false, length, drop, refl, ap, sym, inl, inr, arith, append_assoc, append-nil, Bor, option_map}
use Rattle.std.proofs.Math.Seq.{drop-append-add, drop-length}
use Rattle.std.proofs.lemmas.Grind.{common_steps}
use Rattle.std.specs.Option.{is_some}
use Rattle.streams.specs.Streams.{AtEnd, Moves}
use Rattle.streams.specs.Buffered.{SameUnread, unread}
use Rattle.streams.specs.Lines.{line_feed}
use Rattle.streams.specs.Pieces.{CutterValue, begun, line_in, Ends, IsOver, Takes}
use Rattle.streams.specs.Steps.Cutting.{BeginsLong, CutsKnown, CutsLine, EndsLast}
use Rattle.streams.specs.declared.cutter.LineState.TheVariants as state
use Rattle.streams.specs.declared.lines.LinesFault.{LinesFault}
use Rattle.streams.specs.declared.lines.LinesFault.TheVariants.{Memory, TooLong, Read}

after_feed : (begins pending part rest after : List ℕ) → pending ≡ part ++ line_feed ∷ rest
    → (begins ++ pending) ++ after ≡ (begins ++ part) ++ line_feed ∷ (drop (length part + 1) pending ++ after)
after_feed begins pending part rest after is =
    let left : drop (length part + 1) pending ≡ rest = rw is (drop-append-add part (line_feed ∷ rest) 1) in
    rw (left, is, append_assoc begins (part ++ line_feed ∷ rest) after, append_assoc part (line_feed ∷ rest) after, append_assoc begins part (line_feed ∷ (rest ++ after))) refl

-- bytes that were read, up to a line feed
cuts_ended : (first : List ℕ) (left : Option (List ℕ)) (old new : CutterValue) (pending : List ℕ) (n : ℕ) (after : Option (List ℕ))
    → SameUnread first left (begun old ++ pending) after → Ends old pending n new
    → CutsKnown (unread first left) new.line (Some true) (unread (begun new ++ drop n pending) after)
cuts_ended first None old new pending n after same ends = tt
cuts_ended first (Some xs) old new pending n None same ends = cc (same.1)
cuts_ended first (Some xs) old new pending n (Some ys) same ends =
    let tail : same.0 ≡ ys = cc (same.1) in
    let text = same.2 ∙ after_feed (begun old) pending ends.0 ends.1 same.0 ends.2 in
    rw (ends.5, ends.4) (drop (length ends.0 + 1) pending ++ ys, refl, rw (← tail) text)

shift : (a b c d : List ℕ) → (a ++ (b ++ c)) ++ d ≡ (a ++ b) ++ (c ++ d)
shift a b c d = rw (append_assoc a (b ++ c) d, append_assoc b c d, append_assoc a b (c ++ d)) refl

-- a line that is too long
cuts_over : (first : List ℕ) (left : Option (List ℕ)) (old : CutterValue) (pending : List ℕ) (after : Option (List ℕ))
    → SameUnread first left (begun old ++ pending) after → IsOver old pending → BeginsLong old.longest (unread first left)
cuts_over first None old pending after same over = tt
cuts_over first (Some xs) old pending after same over =
    let text = same.2 ∙ ap (λ p. (begun old ++ p) ++ same.0) over.2 in
    (begun old ++ over.0, over.1 ++ same.0, text ∙ shift (begun old) over.0 over.1 same.0, over.3, over.4)

pub cuts_fault : (first : List ℕ) (left : Option (List ℕ)) (old new : CutterValue) (pending : List ℕ) (after more : Option (List ℕ)) (fault : LinesFault)
    → SameUnread first left (begun old ++ pending) after → old.state ≢ state.TooLong → Takes old pending (Err fault) new
    → CutsLine (unread first left) new (Err fault) more
cuts_fault first left old new pending after more Memory same begins takes = absurd takes
cuts_fault first left old new pending after more Read same begins takes = absurd takes
cuts_fault first left old new pending after more TooLong same begins takes = elim takes.2 [
  | inl e ↦ absurd (begins e.0)
  | inr e ↦ rw takes.1 (cuts_over first left old pending after same e.1)
]

-- a line that a line feed ends
pub cuts_feed : (first : List ℕ) (left : Option (List ℕ)) (old new : CutterValue) (pending : List ℕ) (n : ℕ) (after : Option (List ℕ))
    → SameUnread first left (begun old ++ pending) after → Takes old pending (Ok n) new → line_in new ≢ None
    → CutsLine (unread first left) new (Ok (Some true)) (unread (begun new ++ drop n pending) after)
cuts_feed first left old new pending n after same takes some = elim takes.3 [
  | inl e ↦ (rw e.5 refl, takes.1, takes.2, cuts_ended first left old new pending n after same e)
  | inr e ↦ absurd (some (rw e.2 refl))
]

-- the last line, after a fill at the end
last_known : (first : List ℕ) (left : Option (List ℕ)) (line : List ℕ) (between after : Option (List ℕ)) (bytes : List ℕ)
    → SameUnread first left line between → SameUnread [] between bytes after → bytes ≡ [] → AtEnd after → 0 < length line
    → CutsKnown (unread first left) line (Some false) (unread bytes after)
last_known first None line between after bytes same then none ends some = tt
last_known first (Some xs) line None after bytes same then none ends some = cc (same.1)
last_known first (Some xs) line (Some ys) None bytes same then none ends some = cc (then.1)
last_known first (Some xs) line (Some ys) (Some zs) bytes same then none ends some =
    let after : then.0 ≡ [] = (let e : zs ≡ then.0 = cc (then.1) in sym e ∙ ends) in
    let tail : same.0 ≡ [] = (let e : ys ≡ same.0 = cc (same.1) in sym e ∙ then.2 ∙ rw (none, after) refl) in
    ([], rw (none, ends) refl, (some, same.2 ∙ rw tail (append-nil line), refl))

no_bytes : (bytes : List ℕ) → length bytes ≡ 0 → bytes ≡ []
no_bytes bytes none = grind (arith, common_steps)

pub cuts_last : (first : List ℕ) (left : Option (List ℕ)) (old taken new : CutterValue) (pending rest filled : List ℕ) (n m : ℕ) (between after : Option (List ℕ))
    → SameUnread first left (begun old ++ pending) between → Takes old pending (Ok n) taken → line_in taken ≡ None → rest ≡ drop n pending
    → ((bytes : List ℕ) × (length bytes ≡ m) × (filled ≡ rest ++ bytes) × SameUnread rest between filled after × Moves between after bytes × (m ≡ 0 → AtEnd after))
    → m ≡ 0 → EndsLast taken true new → CutsLine (unread first left) new (Ok (Some false)) (unread (begun new ++ filled) after)
cuts_last first left old taken new pending rest filled n m between after same takes none tail fills zero last = elim takes.3 [
  | inl e ↦ (let some : line_in taken ≡ Some taken.line = rw e.5 refl in cc (some, none))
  | inr e ↦ (
      let same_line : new.line ≡ taken.line = rw (last.1, e.2) refl in
      let longest : new.longest ≡ taken.longest = rw last.1 refl in
      let whole : new.line ≡ begun old ++ pending = rw (last.1, e.2) refl in
      let spent : rest ≡ [] = tail ∙ rw e.1 (drop-length pending) in
      let none_read : fills.0 ≡ [] = no_bytes fills.0 (fills.1 ∙ zero) in
      let filled_is : filled ≡ [] = fills.2 ∙ rw (spent, none_read) refl in
      let none_begun : begun new ++ filled ≡ filled = rw last.1 refl in
      let some : 0 < length new.line = rw last.1 last.0 in
      let before : SameUnread first left new.line between = rw whole same in
      let then : SameUnread [] between filled after = rw spent at fills.3 in
      (rw last.1 refl, rw same_line takes.1, rw (same_line, longest) takes.2, rw none_begun (last_known first left new.line between after filled before then filled_is (fills.5 zero) some)))
]

-- whether a line is borrowed
pub some_line : (lent : Option (Bor (List ℕ))) (line : Option (List ℕ)) → is_some lent ≡ true → option_map (λ l. l.now) lent ≡ line → line ≢ None
some_line None line is same none = cc is
some_line (Some l) line is same none = cc (same, none)

pub no_line : (lent : Option (Bor (List ℕ))) (line : Option (List ℕ)) → is_some lent ≡ false → option_map (λ l. l.now) lent ≡ line → line ≡ None
no_line None line is same = sym same
no_line (Some l) line is same = cc is
