-- What vertices have along their chains, from one member to the one before it.
use Rattle.std.proofs.Common.{◌≡◌, ◌∙◌, ℕ, ◌+◌, ◌≤◌, inl, inr, ⊎_elim, Bool, true, false, ◌==◌, List, [], ◌∷◌, ◌++◌, length, map, reverse, refl, sym, ap, subst, arith}
use Rattle.std.specs.List.{list_any}
use Rattle.std.specs.Prelude.{◌||◌, Contains, IfSome, IfNone, Option, Some, None, is_some, option_and_then}
use Rattle.std.specs.Option.{option_or}
use Rattle.std.proofs.lemmas.List.{map-append, reverse-append}
use Rattle.std.proofs.lemmas.List.Elements.{Contains-append_cases}
use Rattle.lsif.specs.Element.{IdValue, ElementValue}
use Rattle.dump.specs.declared.single.SingleLabel.TheVariants.{Request}
use Rattle.lsif.specs.declared.request_kind.RequestKind.{RequestKind}
use Rattle.dump.specs.Walks.{Pair, IsChain, ends, links, first_to, first_of_list, next_pairs, single_in, single_pairs}
use Rattle.flatten.specs.Flat.{AreResults, number_of}
use Rattle.flatten.specs.Steps.Chains.{AlongValue, AreAlong, AreFound, IsAfter, IsWalkBack, Leads, VertexAlongValue, first_by, nothing, or_later, own_number, own_of, own_result}
use Rattle.streams.proofs.Bools.{eq_of}
use Rattle.streams.proofs.Members.{contains_cases, contains_head, contains_one, contains_tail, not_in_nil}
use Rattle.dump.proofs.Ends.{pair_of_first}
use Rattle.flatten.proofs.NumberPairs.{AreOnes, HasEnds, HasNumber, HasVertexNumbers, have_numbers, single_ends}

-- ---- chains

pub chain_end : (pairs : List Pair) (x : IdValue) (xs : List IdValue) → IsChain pairs x xs → first_to pairs x ≡ None → xs ≡ x ∷ []
chain_end pairs x xs (ends e) n = refl
chain_end pairs x xs (links {y = y} e c) n = let k : ◌≡◌ {A = Option IdValue} None (Some y) = sym n ∙ e in cc

pub chain_on : (pairs : List Pair) (x y : IdValue) (xs : List IdValue) → IsChain pairs x xs → first_to pairs x ≡ Some y → (ys : List IdValue) × IsChain pairs y ys × (xs ≡ x ∷ ys)
chain_on pairs x y xs (ends e) n = let k : ◌≡◌ {A = Option IdValue} None (Some y) = sym e ∙ n in cc
chain_on pairs x y xs (links {y = w} {ys = ys} e c) n =
    let k : Some w ≡ Some y = sym e ∙ n in
    let same : w ≡ y = cc in
    (ys, subst (λ v. IsChain pairs v ys) same c, refl)

pub some_member : (pairs : List Pair) (x : IdValue) (xs : List IdValue) → IsChain pairs x xs → 1 ≤ length xs
some_member pairs x xs (ends e) = omega arith
some_member pairs x xs (links {ys = ys} e c) = omega arith

pub one_chain : (pairs : List Pair) (x : IdValue) (xs zs : List IdValue) → IsChain pairs x xs → IsChain pairs x zs → xs ≡ zs
one_chain pairs x xs zs (ends e) d = sym (chain_end pairs x zs d e)
one_chain pairs x xs zs (links {y = y} {ys = ys} e c) d =
    let r = chain_on pairs x y zs d e in
    ap (λ l. x ∷ l) (one_chain pairs y ys r.0 c r.1) ∙ sym r.2

-- ---- a vertex and what follows it

or_nothing : {X : Type 0} (o : Option X) → o ≡ option_or o None
or_nothing (Some x) = refl
or_nothing None = refl

own_alone : (a : AlongValue) → a ≡ or_later a nothing
own_alone a i = record { results = λ kind. or_nothing (a.results kind) i; bearer = or_nothing a.bearer i }

module _ (elements : List ElementValue) (borne : List (ℕ × ℕ)) where
  pub along_by : (x : IdValue) (along : AlongValue) (o : Option IdValue) → first_to (next_pairs elements) x ≡ o → IsAfter elements borne o along → AreAlong elements borne x (or_later (own_of elements borne x) along)
  along_by x along None e is = (x ∷ [], ends e, ap (or_later (own_of elements borne x)) is)
  along_by x along (Some y) e (ys, c, is) = (x ∷ ys, links e c, ap (or_later (own_of elements borne x)) is)

  pub along_alone : (x : IdValue) → first_to (next_pairs elements) x ≡ None → AreAlong elements borne x (own_of elements borne x)
  along_alone x none = (x ∷ [], ends none, λ i. own_alone (own_of elements borne x) i)

  pub along_after : (x : IdValue) (along : AlongValue) → IsAfter elements borne (first_to (next_pairs elements) x) along → AreAlong elements borne x (or_later (own_of elements borne x) along)
  along_after x along h = along_by x along (first_to (next_pairs elements) x) refl h

  -- ---- the walk

  -- at a vertex of which it's found what it has
  pub walk_found : (from at : IdValue) (path : List IdValue) (along : AlongValue) → Leads elements from at path → AreAlong elements borne at along → IsWalkBack elements borne from path along
  walk_found from at [] along same h = subst (λ x. AreAlong elements borne x along) same h
  walk_found from at (x ∷ path) along (next, more) h = (subst (λ o. IsAfter elements borne o along) (sym next) h, more)

  -- at the end of a chain
  pub walk_ends : (from at : IdValue) (path : List IdValue) → Leads elements from at path → first_to (next_pairs elements) at ≡ None → IsWalkBack elements borne from (at ∷ path) nothing
  walk_ends from at path leads none = (subst (λ o. IsAfter elements borne o nothing) (sym none) refl, leads)

  pub walk_starts : (from : IdValue) → Leads elements from from []
  walk_starts from = refl

  -- back from the last of the path
  pub walk_back : (from x : IdValue) (path : List IdValue) (along : AlongValue) → IsWalkBack elements borne from (x ∷ path) along
      → AreAlong elements borne x (or_later (own_of elements borne x) along) × IsWalkBack elements borne from path (or_later (own_of elements borne x) along)
  walk_back from x path along (after, leads) =
      let here = along_after x along after in
      (here, walk_found from x path (or_later (own_of elements borne x) along) leads here)

pub back_push : {X : Type 0} (xs : List X) (x : X) → reverse (xs ++ x ∷ []) ≡ x ∷ reverse xs
back_push xs x = reverse-append xs (x ∷ [])

-- one step back: what the last of the path has, and what is left of the walk
pub back_step : {A : Type 0} (id : A → IdValue) (d e : List ElementValue) (borne pairs sources : List (ℕ × ℕ)) (from : IdValue) (path rest : List A) (member : A) (along own more : AlongValue) → d ≡ e → pairs ≡ borne → sources ≡ pairs → path ≡ rest ++ member ∷ []
    → own ≡ own_of d sources (id member) → more ≡ or_later own along → IsWalkBack e borne from (reverse (map id path)) along → AreAlong d pairs (id member) more × IsWalkBack e borne from (reverse (map id rest)) more
back_step id d e borne pairs sources from path rest member along own more same_dump same_pairs same_sources popped is_own is_more walk =
    let x = id member in
    let back : reverse (map id path) ≡ x ∷ reverse (map id rest) = ap (λ l. reverse (map id l)) popped ∙ ap reverse (map-append id rest (member ∷ [])) ∙ back_push (map id rest) x in
    let r = walk_back e borne from x (reverse (map id rest)) along (subst (λ l. IsWalkBack e borne from l along) back walk) in
    let is : more ≡ or_later (own_of e borne x) along = is_more ∙ ap (λ o. or_later o along) (is_own ∙ ap (λ l. own_of l sources x) same_dump ∙ ap (λ l. own_of e l x) (same_sources ∙ same_pairs)) in
    let here : AreAlong e borne x more = subst (AreAlong e borne x) (sym is) r.0 in
    (subst (λ l. AreAlong l pairs x more) (sym same_dump) (subst (λ l. AreAlong e l x more) (sym same_pairs) here), subst (IsWalkBack e borne from (reverse (map id rest))) (sym is) r.1)

-- where a walk is after some steps
pub record Walking (elements : List ElementValue) (from at : IdValue) (path : List IdValue) (steps : ℕ) : Type 0 where
  pub leads : Leads elements from at (reverse path)
  pub rest : List IdValue
  pub chain : IsChain (next_pairs elements) at rest
  pub room : length rest + steps ≤ length elements + 1

pub walking_first : (elements : List ElementValue) (from : IdValue) (rest : List IdValue) → IsChain (next_pairs elements) from rest → length rest ≤ length elements + 1 → Walking elements from from [] 0
walking_first elements from rest chain room = record { leads = refl; rest = rest; chain = chain; room = omega (arith, room) }

pub walking_on : (elements : List ElementValue) (from at next : IdValue) (path : List IdValue) (steps : ℕ) → Walking elements from at path steps → first_to (next_pairs elements) at ≡ Some next → Walking elements from next (path ++ at ∷ []) (steps + 1)
walking_on elements from at next path steps w e =
    let r = chain_on (next_pairs elements) at next w.rest w.chain e in
    record {
      leads = subst (Leads elements from next) (sym (back_push path at)) (e, w.leads);
      rest = r.0;
      chain = r.1;
      room = omega (arith, w.room, ap length r.2);
    }

-- ---- what is found

pub found_first : (elements : List ElementValue) (borne : List (ℕ × ℕ)) → AreFound elements borne []
found_first elements borne v x at e = absurd (not_in_nil v at)

pub found_more : (elements : List ElementValue) (borne : List (ℕ × ℕ)) (found : List VertexAlongValue) → AreOnes elements → AreFound elements borne found → (x : IdValue) (v : VertexAlongValue) → AreAlong elements borne x v.along
    → number_of elements x ≡ Some v.vertex → AreFound elements borne (found ++ v ∷ [])
found_more elements borne found ones are x v is at w y held e = elim (Contains-append_cases found (v ∷ []) w held) [
  | inl old ↦ are w y old e
  | inr more ↦
      let same : v ≡ w = contains_one v w more in
      let who : x ≡ y = ones x y v.vertex at (e ∙ ap (λ (u : VertexAlongValue). Some u.vertex) (sym same)) in
      subst (λ z. AreAlong elements borne z w.along) who (subst (λ (u : VertexAlongValue). AreAlong elements borne x u.along) same is)
]

-- ---- first results

first_by_list : (own : List Pair) (xs : List IdValue) → first_by (first_to own) xs ≡ first_of_list own xs
first_by_list own [] = refl
first_by_list own (x ∷ xs) = by (first_by_list own xs) (first_to own x)
  where
    by : first_by (first_to own) xs ≡ first_of_list own xs → (o : Option IdValue) → option_or o (first_by (first_to own) xs) ≡ elim o as (λ _. Option IdValue) [ Some r ↦ Some r | None ↦ first_of_list own xs ]
    by rest (Some r) = refl
    by rest None = rest

module _ (elements : List ElementValue) (has : HasEnds elements) (lined : HasVertexNumbers elements) where
  result_number : (request : RequestKind) (x y : IdValue) → own_result elements request x ≡ Some y → HasNumber elements y
  result_number request x y e = (have_numbers (single_in (Request request)) elements (single_ends (Request request)) has lined x y (pair_of_first (single_pairs (Request request) elements) x y e)).1

  -- the number of the first result is the first number of a result
  first_number : (request : RequestKind) (xs : List IdValue) → first_by (own_number elements request) xs ≡ option_and_then (number_of elements) (first_by (own_result elements request) xs)
  first_number request [] = refl
  first_number request (x ∷ xs) = by (own_result elements request x) refl (first_number request xs)
    where
      later : Option ℕ
      later = first_by (own_number elements request) xs

      by : (o : Option IdValue) → own_result elements request x ≡ o → later ≡ option_and_then (number_of elements) (first_by (own_result elements request) xs)
          → option_or (option_and_then (number_of elements) o) later ≡ option_and_then (number_of elements) (option_or o (first_by (own_result elements request) xs))
      by None e rest = rest
      by (Some y) e rest = let n = result_number request x y e in ap (λ m. option_or m later) n.1 ∙ sym n.1

  pub results_along : (borne : List (ℕ × ℕ)) (x : IdValue) (along : AlongValue) → AreAlong elements borne x along → AreResults elements x along.results
  results_along borne x along (xs, chain, is) request =
      (first_by (own_result elements request) xs, (xs, chain, first_by_list (single_pairs (Request request) elements) xs), ap (λ (a : AlongValue). a.results request) is ∙ first_number request xs)

-- whether a vertex is the source of a pair, by what its pairs lead to
pub is_source_by : (pairs : List (ℕ × ℕ)) (n : ℕ) (o : Option ℕ) → IfSome o (λ m. Contains pairs (n, m)) → IfNone o ((m : ℕ) → Contains pairs (n, m) → ⊥) → is_some o ≡ list_any (λ p. p.0 == n) pairs
is_source_by pairs n (Some m) some none = sym (passes pairs some)
  where
    passes : (ps : List (ℕ × ℕ)) → Contains ps (n, m) → list_any (λ p. p.0 == n) ps ≡ true
    passes [] at = absurd (not_in_nil (n, m) at)
    passes (p ∷ ps) at = ⊎_elim
        (λ (e : p ≡ (n, m)). let same : p.0 ≡ n = ap (λ (q : ℕ × ℕ). q.0) e in let t : (p.0 == n) ≡ true = grind (arith, same) in ap (λ b. b || list_any (λ q. q.0 == n) ps) t)
        (λ (t : Contains ps (n, m)). let r = passes ps t in grind (arith, r))
        (contains_cases p ps (n, m) at)
is_source_by pairs n None some none = sym (fails pairs none)
  where
    fails : (ps : List (ℕ × ℕ)) → ((m : ℕ) → Contains ps (n, m) → ⊥) → list_any (λ p. p.0 == n) ps ≡ false
    fails [] never = refl
    fails (p ∷ ps) never = by (p.0 == n) refl (fails ps (λ m at. never m (contains_tail p ps (n, m) at)))
      where
        by : (b : Bool) → (p.0 == n) ≡ b → list_any (λ q. q.0 == n) ps ≡ false → ((p.0 == n) || list_any (λ q. q.0 == n) ps) ≡ false
        by true e rest = let number : p.0 ≡ n = eq_of p.0 n e in absurd (never p.1 (subst (Contains (p ∷ ps)) (λ i. (number i, p.1)) (contains_head p ps)))
        by false e rest = ap (λ b. b || list_any (λ q. q.0 == n) ps) e ∙ rest
