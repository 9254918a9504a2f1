-- What matchit's router answers for rows of ASCII bytes, which may end in a parameter and its
-- suffix.
use Rattle.std.proofs.Common.{length-append, append-nil, ◌≡◌, ◌≢◌, ℕ, zero, suc, ◌-◌, ◌<◌, ◌⊎◌, inl, inr, Bool, true, false, List, [], ◌∷◌, ◌++◌, length, drop, Option, Some, None, refl, sym, ◌∙◌, ap, subst, arith, cond, nat_eq, is_some}
use Rattle.std.proofs.Math.Seq.{drop-append_seam}
use Rattle.std.proofs.Math.Bool.{and-false}
use Rattle.std.proofs.lemmas.Slice.Eq.{bytes_eq-Decides}
use Rattle.std.proofs.lemmas.Bool.{ne_eqb, eqb-true, eqb-false, lt-ltb}
use Rattle.std.specs.Prelude.{◌==◌, ◌&&◌, nat_lt}
use Rattle.std.specs.Cmp.Lexicographic.{pointwise}
use Rattle.matchit.specs.Rows.{RowsOf, param_token, catch_all_token}
use Rattle.matchit.specs.Order.{lookup}
use Rattle.matchit.specs.Seek.{own, step, or_else, seek, first, after_param, param_step, segment, has_slash, same_text, slash, cuts, longest_from, longest_suffix, with_suffix}
use Rattle.http_edge.specs.Routes.{NoSlash, first_segment, after_segment}

-- ASCII bytes alone
abbrev pub IsLiteral : List ℕ → Type 0
IsLiteral [] = Unit {0}
IsLiteral (x ∷ t) = (x < 128) × IsLiteral t

-- what may follow a parameter: nothing, or a slash and ASCII bytes
abbrev pub IsSuffix : List ℕ → Type 0
IsSuffix [] = Unit {0}
IsSuffix (x ∷ t) = (x ≡ 47) × IsLiteral t

-- ASCII bytes, and then nothing, or a parameter and its suffix
abbrev pub IsSimple : List ℕ → Type 0
IsSimple [] = Unit {0}
IsSimple (x ∷ t) = ((x < 128) × IsSimple t) ⊎ ((x ≡ param_token) × IsSuffix t)

-- a path of these tokens, where a parameter matches a segment that isn't empty
abbrev pub Matches : List ℕ → List ℕ → Type 0
Matches [] path = path ≡ []
Matches (x ∷ t) path =
    ((rest : List ℕ) × (path ≡ x ∷ rest) × Matches t rest)
    ⊎ ((x ≡ param_token) × ((project : List ℕ) × (path ≡ project ++ t) × (project ≢ []) × NoSlash project))

pub suffix_literal : (t : List ℕ) → IsSuffix t → IsLiteral t
suffix_literal [] s = tt
suffix_literal (x ∷ t) s = (let e = s.0 in omega arith, s.1)

pub literal_simple : (t : List ℕ) → IsLiteral t → IsSimple t
literal_simple [] a = tt
literal_simple (x ∷ t) a = inl (a.0, literal_simple t a.1)

simple_tail : (x : ℕ) (t : List ℕ) → IsSimple (x ∷ t) → IsSimple t
simple_tail x t (inl s) = s.1
simple_tail x t (inr s) = literal_simple t (suffix_literal t s.1)

simple_suffix : (x : ℕ) (t : List ℕ) → x ≡ param_token → IsSimple (x ∷ t) → IsSuffix t
simple_suffix x t e (inl s) = let lt = s.0 in absurd (omega arith)
simple_suffix x t e (inr s) = s.1

-- the first token is another
abbrev Lacks : ℕ → List ℕ → Type 0
Lacks y [] = Unit {0}
Lacks y (x ∷ t) = x ≢ y

literal_lacks : (t : List ℕ) → IsLiteral t → Lacks param_token t
literal_lacks [] a = tt
literal_lacks (x ∷ t) a = λ e. (let lt = a.0 in absurd (omega arith))

simple_lacks : (t : List ℕ) → IsSimple t → Lacks catch_all_token t
simple_lacks [] a = tt
simple_lacks (x ∷ t) (inl s) = λ e. (let lt = s.0 in absurd (omega arith))
simple_lacks (x ∷ t) (inr s) = λ e. (let f = s.0 in absurd (omega arith))

-- ---- a path's first segment, and what follows it

-- nothing, or a slash and what follows it
abbrev pub IsCut : List ℕ → Type 0
IsCut [] = Unit {0}
IsCut (x ∷ t) = x ≡ 47

pub suffix_cut : (t : List ℕ) → IsSuffix t → IsCut t
suffix_cut [] s = tt
suffix_cut (x ∷ t) s = s.0

abbrev Parts : List ℕ → Type 0
Parts path = (path ≡ first_segment path ++ after_segment path) × NoSlash (first_segment path) × IsCut (after_segment path)

parts_more : (b : ℕ) (path : List ℕ) (c : Bool) → (b == 47) ≡ c → Parts path → Parts (b ∷ path)
parts_more b path true e p = rw e (refl, tt, eqb-true b 47 e)
parts_more b path false e p = rw e (ap (λ l. b ∷ l) p.0, (eqb-false b 47 e, p.1), p.2)

pub parts : (path : List ℕ) → Parts path
parts [] = (refl, tt, tt)
parts (b ∷ path) = parts_more b path (b == 47) refl (parts path)

pub parts_of : (p t : List ℕ) → NoSlash p → IsCut t → (first_segment (p ++ t) ≡ p) × (after_segment (p ++ t) ≡ t)
parts_of [] [] a s = (refl, refl)
parts_of [] (x ∷ t) a s = rw s (refl, refl)
parts_of (x ∷ p) t a s = let r = parts_of p t a.1 s in (rw (ne_eqb x 47 a.0, r.0) refl, rw (ne_eqb x 47 a.0, r.1) refl)

pub segment_is : (p rest : List ℕ) → NoSlash p → segment (p ++ slash ∷ rest) ≡ p ++ slash ∷ []
segment_is [] rest a = refl
segment_is (x ∷ p) rest a = rw (ne_eqb x 47 a.0, segment_is p rest a.1) refl

segment_all : (p : List ℕ) → NoSlash p → segment p ≡ p
segment_all [] a = refl
segment_all (x ∷ p) a = rw (ne_eqb x 47 a.0, segment_all p a.1) refl

slash_in : (p rest : List ℕ) → NoSlash p → has_slash (p ++ slash ∷ rest) ≡ true
slash_in [] rest a = refl
slash_in (x ∷ p) rest a = rw (ne_eqb x 47 a.0) (slash_in p rest a.1)

no_slash : (p : List ℕ) → NoSlash p → has_slash p ≡ false
no_slash [] a = refl
no_slash (x ∷ p) a = rw (ne_eqb x 47 a.0) (no_slash p a.1)

cuts_slash : (x : ℕ) (p : List ℕ) → cuts (x ∷ (p ++ slash ∷ [])) (slash ∷ []) ≡ true
cuts_slash x p =
    let n = length-append p (slash ∷ []) in
    let k : suc (length (p ++ slash ∷ [])) - 1 ≡ suc (length p) = omega arith in
    let long : 1 < suc (length (p ++ slash ∷ [])) = omega arith in
    rw (k, drop-append_seam p (slash ∷ []), lt-ltb 1 (suc (length (p ++ slash ∷ []))) long) refl

last_no_slash : (b : ℕ) (p : List ℕ) → NoSlash (b ∷ p) → pointwise nat_eq (slash ∷ []) (drop (length p) (b ∷ p)) ≡ false
last_no_slash b [] a = rw (ne_eqb 47 b (λ e. a.0 (sym e))) refl
last_no_slash b (c ∷ p) a = last_no_slash c p a.1

cuts_none : (b : ℕ) (p : List ℕ) → NoSlash (b ∷ p) → cuts (b ∷ p) (slash ∷ []) ≡ false
cuts_none b p a =
    let k : suc (length p) - 1 ≡ length p = omega arith in
    rw (k, last_no_slash b p a) (and-false (nat_lt 1 (suc (length p))))

pub same_is : (xs ys : List ℕ) → pointwise nat_eq xs ys ≡ true → xs ≡ ys
same_is xs ys h = (bytes_eq-Decides xs ys).0 h

module _ {K : Type 0} where
  -- ---- what holds of each row

  abbrev pub Each : (List ℕ → K → Type 0) → RowsOf K → Type 0
  Each Q [] = Unit {0}
  Each Q ((t, key) ∷ rest) = Q t key × Each Q rest

  abbrev pub EachOf : (List ℕ → Type 0) → RowsOf K → Type 0
  EachOf P rs = Each (λ t key. P t) rs

  each_map : (Q R : List ℕ → K → Type 0) (rs : RowsOf K) → ((t : List ℕ) (key : K) → Q t key → R t key) → Each Q rs → Each R rs
  each_map Q R [] f a = tt
  each_map Q R ((t, key) ∷ rest) f a = (f t key a.0, each_map Q R rest f a.1)

  each_of : (P R : List ℕ → Type 0) (rs : RowsOf K) → ((t : List ℕ) → P t → R t) → EachOf P rs → EachOf R rs
  each_of P R rs f a = each_map (λ t key. P t) (λ t key. R t) rs (λ t key p. f t p) a

  each_cond : (Q : List ℕ → K → Type 0) (c : Bool) (t : List ℕ) (key : K) (s : RowsOf K) → (c ≡ true → Q t key) → Each Q s → Each Q (cond c ((t, key) ∷ s) s)
  each_cond Q true t key s f a = (f refl, a)
  each_cond Q false t key s f a = a

  each_step : (Q : List ℕ → K → Type 0) (b : ℕ) (rs : RowsOf K) → Each Q rs → Each (λ t key. Q (b ∷ t) key) (step b rs)
  each_step Q b [] a = tt
  each_step Q b (([], key) ∷ rest) a = each_step Q b rest a.1
  each_step Q b ((x ∷ t, key) ∷ rest) a =
      each_cond (λ u k. Q (b ∷ u) k) (x == b) t key (step b rest) (λ e. subst (λ (y : ℕ). Q (y ∷ t) key) (eqb-true x b e) a.0) (each_step Q b rest a.1)

  each_with : (Q : List ℕ → K → Type 0) (s : List ℕ) (rs : RowsOf K) → Each Q rs → Each Q (with_suffix s rs)
  each_with Q s [] a = tt
  each_with Q s ((t, key) ∷ rest) a = each_cond Q (same_text (segment t) s) t key (with_suffix s rest) (λ e. a.0) (each_with Q s rest a.1)

  step_none : (y : ℕ) (rs : RowsOf K) → EachOf (Lacks y) rs → step y rs ≡ []
  step_none y [] a = refl
  step_none y (([], key) ∷ rest) a = step_none y rest a.1
  step_none y ((x ∷ t, key) ∷ rest) a = rw (ne_eqb x y a.0) (step_none y rest a.1)

  -- ---- rows that are looked up

  lookup_nil : (rs : RowsOf K) → lookup [] rs ≡ own rs
  lookup_nil [] = refl
  lookup_nil (([], key) ∷ rest) = refl
  lookup_nil ((x ∷ t, key) ∷ rest) = lookup_nil rest

  look_cond : (c : Bool) (path t : List ℕ) (key : K) (s : RowsOf K) (o : Option K) → lookup path s ≡ o
      → lookup path (cond c ((t, key) ∷ s) s) ≡ cond (c && same_text t path) (Some key) o
  look_cond true path t key s o e = rw e refl
  look_cond false path t key s o e = e

  lookup_step : (b : ℕ) (path : List ℕ) (rs : RowsOf K) → lookup path (step b rs) ≡ lookup (b ∷ path) rs
  lookup_step b path [] = refl
  lookup_step b path (([], key) ∷ rest) = lookup_step b path rest
  lookup_step b path ((x ∷ t, key) ∷ rest) = look_cond (x == b) path t key (step b rest) (lookup (b ∷ path) rest) (lookup_step b path rest)

  pub lookup_each : (Q : List ℕ → K → Type 0) (rs : RowsOf K) (path : List ℕ) (key : K) → Each Q rs → lookup path rs ≡ Some key → Q path key
  lookup_each Q [] path key a e = cc e
  lookup_each Q ((t, k) ∷ rest) path key a e = pick (same_text t path) refl (λ f. lookup_each Q rest path key a.1 f) where
    pick : (c : Bool) → same_text t path ≡ c → (lookup path rest ≡ Some key → Q path key) → Q path key
    pick true h more =
        let f : Some k ≡ Some key = rw h at e in
        let g : k ≡ key = cc f in
        subst (λ (y : K). Q path y) g (subst (λ (u : List ℕ). Q u k) (same_is t path h) a.0)
    pick false h more = let f : lookup path rest ≡ Some key = rw h at e in more f

  -- ---- one byte of a path

  or_none : (a : Option K) → or_else a None ≡ a
  or_none None = refl
  or_none (Some k) = refl

  or_left : (a c : Option K) → is_some a ≡ true → is_some (or_else a c) ≡ true
  or_left None c e = cc e
  or_left (Some k) c e = refl

  or_right : (a c : Option K) → is_some c ≡ true → is_some (or_else a c) ≡ true
  or_right None c e = e
  or_right (Some k) c e = refl

  or_cases : (a c : Option K) (key : K) (P : Type 0) → or_else a c ≡ Some key → (a ≡ Some key → P) → (c ≡ Some key → P) → P
  or_cases None c key P e f g = g e
  or_cases (Some k) c key P e f g = f e

  nil_param : (c : Bool) (b : ℕ) (path : List ℕ) → ((k : ℕ) → seek {K = K} k [] path ≡ None)
      → seek ((cond {A = ℕ × RowsOf K} c (0, []) (length (b ∷ path), [])).0 - 1) (cond {A = ℕ × RowsOf K} c (0, []) (length (b ∷ path), [])).1 path ≡ None
  nil_param true b path all = all (0 - 1)
  nil_param false b path all = all (length (b ∷ path) - 1)

  seek_nil : (k : ℕ) (path : List ℕ) → seek {K = K} k [] path ≡ None
  unfolding seek param_step
  seek_nil k [] = refl
  seek_nil (suc k) (b ∷ path) = seek_nil k path
  seek_nil zero (b ∷ path) = rw (seek_nil 0 path) (ap (λ (o : Option K). or_else o None) (nil_param (has_slash (b ∷ path)) b path (λ k. seek_nil k path)))

  after_nil : (path : List ℕ) → after_param {K = K} [] path ≡ None
  unfolding param_step
  after_nil [] = refl
  after_nil (b ∷ path) = nil_param (has_slash (b ∷ path)) b path (λ k. seek_nil k path)

  first_step : (rs : RowsOf K) (b : ℕ) (path : List ℕ) → EachOf IsSimple rs → first rs (b ∷ path) ≡ or_else (first (step b rs) path) (after_param (step param_token rs) (b ∷ path))
  unfolding seek
  first_step rs b path a =
      rw (step_none catch_all_token rs (each_of IsSimple (Lacks catch_all_token) rs simple_lacks a))
      (ap (λ (o : Option K). or_else (first (step b rs) path) o) (or_none (after_param (step param_token rs) (b ∷ path))))

  first_literal : (rs : RowsOf K) (path : List ℕ) → EachOf IsLiteral rs → first rs path ≡ lookup path rs
  unfolding seek
  first_literal rs [] a = sym (lookup_nil rs)
  first_literal rs (b ∷ path) a =
      first_step rs b path (each_of IsLiteral IsSimple rs literal_simple a)
      ∙ rw (step_none param_token rs (each_of IsLiteral (Lacks param_token) rs literal_lacks a), after_nil (b ∷ path)) (or_none (first (step b rs) path))
      ∙ first_literal (step b rs) path (each_of (λ t. IsLiteral (b ∷ t)) IsLiteral (step b rs) (λ t s. s.1) (each_step (λ t key. IsLiteral t) b rs a))
      ∙ lookup_step b path rs

  seek_past : (p : List ℕ) (rs : RowsOf K) (path : List ℕ) → seek (length p) rs (p ++ path) ≡ first rs path
  unfolding seek
  seek_past [] rs path = refl
  seek_past (x ∷ p) rs path = seek_past p rs path

  seek_all : (p : List ℕ) (rs : RowsOf K) → seek (length p) rs p ≡ lookup [] rs
  unfolding seek
  seek_all p rs = subst (λ (l : List ℕ). seek (length p) rs l ≡ first rs []) (append-nil p) (seek_past p rs []) ∙ sym (lookup_nil rs)

  -- ---- a parameter: it takes the first segment, and what follows is looked up

  longest_none : (seg : List ℕ) (us : RowsOf K) → EachOf IsSuffix us → cuts seg (slash ∷ []) ≡ false → longest_suffix seg us ≡ []
  longest_none seg [] a e = refl
  longest_none seg (([], key) ∷ us) a e = longest_none seg us a.1 e
  longest_none seg ((x ∷ t, key) ∷ us) a e = rw (a.0.0, e) (longest_none seg us a.1 e)

  longest_stays : (seg : List ℕ) (us : RowsOf K) → EachOf IsSuffix us → longest_from seg (slash ∷ []) us ≡ slash ∷ []
  longest_stays seg [] a = refl
  longest_stays seg (([], key) ∷ us) a = longest_stays seg us a.1
  longest_stays seg ((x ∷ t, key) ∷ us) a = rw a.0.0 (longest_stays seg us a.1)

  longest_slash : (seg : List ℕ) (us : RowsOf K) → EachOf IsSuffix us → cuts seg (slash ∷ []) ≡ true
      → (longest_suffix seg us ≡ slash ∷ []) ⊎ ((longest_suffix seg us ≡ []) × ((rest : List ℕ) → lookup (slash ∷ rest) us ≡ None))
  longest_slash seg [] a e = inr (refl, λ rest. refl)
  longest_slash seg (([], key) ∷ us) a e = longest_slash seg us a.1 e
  longest_slash seg ((x ∷ t, key) ∷ us) a e = inl (rw (a.0.0, e) (longest_stays seg us a.1))

  lookup_with : (rest : List ℕ) (us : RowsOf K) → EachOf IsSuffix us → lookup (slash ∷ rest) (with_suffix (slash ∷ []) us) ≡ lookup (slash ∷ rest) us
  lookup_with rest [] a = refl
  lookup_with rest (([], key) ∷ us) a = lookup_with rest us a.1
  lookup_with rest ((x ∷ t, key) ∷ us) a = rw a.0.0 (ap (λ (o : Option K). cond (same_text t rest) (Some key) o) (lookup_with rest us a.1))

  -- what follows a segment that isn't empty
  abbrev below : List ℕ → Option K → Option K
  below [] o = None
  below (x ∷ p) o = o

  param_is : (us : RowsOf K) (p t : List ℕ) → EachOf IsSuffix us → NoSlash p → IsCut t → after_param us (p ++ t) ≡ below p (lookup t us)
  unfolding param_step
  param_is us [] [] a n s = refl
  param_is us [] (x ∷ t) a n s = rw (s, longest_none (slash ∷ []) us a refl) (seek_nil (0 - 1) t)
  param_is us (b ∷ p) [] a n s =
      let k : suc (length p) - 1 ≡ length p = omega arith in
      rw (append-nil p, segment_all (b ∷ p) n, longest_none (b ∷ p) us a (cuts_none b p n), no_slash (b ∷ p) n, k) (seek_all p us)
  param_is us (b ∷ p) (x ∷ t) a n s =
      let long : length (b ∷ (p ++ slash ∷ [])) - 1 - 1 ≡ length p = (let m = length-append p (slash ∷ []) in omega arith) in
      elim (longest_slash (b ∷ (p ++ slash ∷ [])) us a (cuts_slash b p)) [
        | inl l ↦
            rw (s, segment_is (b ∷ p) t n, l, long, seek_past p (with_suffix (slash ∷ []) us) (slash ∷ t))
            (first_literal (with_suffix (slash ∷ []) us) (slash ∷ t) (each_of IsSuffix IsLiteral (with_suffix (slash ∷ []) us) suffix_literal (each_with (λ u key. IsSuffix u) (slash ∷ []) us a))
            ∙ lookup_with t us a)
        | inr l ↦ rw (s, segment_is (b ∷ p) t n, l.0, slash_in (b ∷ p) t n, seek_nil (0 - 1) (p ++ slash ∷ t)) (sym (l.1 t))
      ]

  after_is : (us : RowsOf K) (path : List ℕ) → EachOf IsSuffix us → after_param us path ≡ below (first_segment path) (lookup (after_segment path) us)
  after_is us path a =
      let q = parts path in
      subst (λ (l : List ℕ). after_param us l ≡ below (first_segment path) (lookup (after_segment path) us)) (sym q.0) (param_is us (first_segment path) (after_segment path) a q.1 q.2)

  suffixes : (rs : RowsOf K) → EachOf IsSimple rs → EachOf IsSuffix (step param_token rs)
  suffixes rs a = each_of (λ t. IsSimple (param_token ∷ t)) IsSuffix (step param_token rs) (λ t s. simple_suffix param_token t refl s) (each_step (λ t key. IsSimple t) param_token rs a)

  below_some : (p : List ℕ) (o : Option K) (key : K) → below p o ≡ Some key → (p ≢ []) × (o ≡ Some key)
  below_some [] o key e = cc e
  below_some (x ∷ p) o key e = (λ f. cc f, e)

  -- ---- what is found is a row that the path matches, and where a row matches one is found

  abbrev Told : (K → Type 0) → List ℕ → List ℕ → K → Type 0
  Told P path t key = IsSimple t × (Matches t path → P key)

  pub sound : (P : K → Type 0) (rs : RowsOf K) (path : List ℕ) (key : K) → Each (λ t k. IsSimple t × (Matches t path → P k)) rs → first rs path ≡ Some key → P key
  unfolding seek
  sound P rs [] key a e = (lookup_each (Told P []) rs [] key a (lookup_nil rs ∙ e)).1 refl
  sound P rs (b ∷ path) key a e =
      let simple = each_map (Told P (b ∷ path)) (λ t k. IsSimple t) rs (λ t k q. q.0) a in
      let q = parts (b ∷ path) in
      or_cases (first (step b rs) path) (after_param (step param_token rs) (b ∷ path)) key (P key) (sym (first_step rs b path simple) ∙ e)
      (λ f.
      let next = each_map (λ t k. Told P (b ∷ path) (b ∷ t) k) (Told P path) (step b rs) (λ t k s. (simple_tail b t s.0, λ m. s.1 (inl (path, refl, m)))) (each_step (Told P (b ∷ path)) b rs a) in
      sound P (step b rs) path key next f)
      (λ f.
      let g = below_some (first_segment (b ∷ path)) (lookup (after_segment (b ∷ path)) (step param_token rs)) key (sym (after_is (step param_token rs) (b ∷ path) (suffixes rs simple)) ∙ f) in
      let r = lookup_each (λ t k. Told P (b ∷ path) (param_token ∷ t) k) (step param_token rs) (after_segment (b ∷ path)) key (each_step (Told P (b ∷ path)) param_token rs a) g.1 in
      r.1 (inr (refl, (first_segment (b ∷ path), q.0, g.0, q.1))))

  pub complete : (t : List ℕ) (rs : RowsOf K) (path : List ℕ) → EachOf IsSimple rs → IsSimple t → is_some (lookup t rs) ≡ true → Matches t path → is_some (first rs path) ≡ true
  unfolding seek
  complete [] rs path a s l m = rw (m, ← lookup_nil rs) l
  complete (x ∷ t) rs path a s l (inl m) =
      let next = each_of (λ u. IsSimple (x ∷ u)) IsSimple (step x rs) (λ u v. simple_tail x u v) (each_step (λ u key. IsSimple u) x rs a) in
      rw (m.1, first_step rs x m.0 a)
      (or_left (first (step x rs) m.0) (after_param (step param_token rs) (x ∷ m.0)) (complete t (step x rs) m.0 next (simple_tail x t s) (rw (lookup_step x t rs) l) m.2))
  complete (x ∷ t) rs path a s l (inr m) = taken m.1.0 m.1.1 m.1.2 m.1.3 where
    taken : (p : List ℕ) → path ≡ p ++ t → p ≢ [] → NoSlash p → is_some (first rs path) ≡ true
    taken [] e ne n = absurd (ne refl)
    taken (y ∷ p) e ne n =
        let row : is_some (lookup (param_token ∷ t) rs) ≡ true = subst (λ (z : ℕ). is_some (lookup (z ∷ t) rs) ≡ true) m.0 l in
        let is = param_is (step param_token rs) (y ∷ p) t (suffixes rs a) n (suffix_cut t (simple_suffix x t m.0 s)) in
        rw (e, first_step rs y (p ++ t) a)
        (or_right (first (step y rs) (p ++ t)) (after_param (step param_token rs) (y ∷ (p ++ t))) (rw (is, lookup_step param_token t rs) row))
