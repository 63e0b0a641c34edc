-- The lengths of paths along a walk, and the first that is too long.
use Rattle.std.specs.Prelude.{map, find, nat_lt, slice_get, option_map, option_copied}
use Rattle.std.proofs.Common.{◌≡◌, ℕ, zero, suc, ◌+◌, ◌<◌, ◌≤◌, Bool, true, false, List, [], ◌∷◌, ◌++◌, length, get_or, take, Option, Some, None, refl, sym, ◌∙◌, ap, subst, arith, length-append, cond, Bor}
use Rattle.std.proofs.lemmas.Bool.Decides.{nat_tests}
use Rattle.mtn_base.specs.Paths.{path_text}
use Rattle.mtn_replay.proofs.Steps.{first_fails}
use Rattle.mtn_manifest.proofs.Prefixes.{copied_is, met_more, all_met}
use Rattle.mtn_roster.specs.declared.entry.Entry.{Entry}
use Rattle.mtn_roster.specs.declared.entry.Slot.{Slot}
use Rattle.mtn_roster.specs.declared.entry.Slot.TheVariants.{Root, Below}
use Rattle.mtn_roster.specs.declared.walk.Stop.{Stop}
use Rattle.mtn_roster.specs.Tree.{Tree, IsSane, entry_of, path_of, path_up}
use Rattle.mtn_roster.specs.Walk.{by_path, IsAbove, AreStops}
use Rattle.mtn_roster.proofs.Along.{held, named_by, take_at, stop_has}
use Rattle.mtn_roster.proofs.Leading.{get_map, get_within}
use Rattle.mtn_roster.proofs.Walking.{child_path}
use Rattle.mtn_replay.specs.Making.{is_long}
use Rattle.mtn_make_roster.specs.Limits.{slashed, slashed_at, IsMet}

-- with a slash behind each component a path has one byte more
one_more : (c : List ℕ) (cs : List (List ℕ)) → slashed (c ∷ cs) ≡ length (path_text (c ∷ cs)) + 1
one_more c [] = omega arith
one_more c (d ∷ cs) = let rest = one_more d cs in omega (arith, rest, length-append c (47 ∷ path_text (d ∷ cs)))

above : (n : ℕ) → 4096 < n → nat_lt 4096 n ≡ true
above n lt = grind (arith, nat_tests, lt)

not_above : (n : ℕ) → n ≤ 4096 → nat_lt 4096 n ≡ false
not_above n le = grind (arith, nat_tests, le)

pub is_too_long : (p : List (List ℕ)) → 4097 < slashed p → is_long p ≡ true
is_too_long [] lt = absurd (omega (arith, lt))
is_too_long (c ∷ cs) lt = let e = one_more c cs in above (length (path_text (c ∷ cs))) (omega (arith, lt, e))

pub is_not_long : (p : List (List ℕ)) → slashed p ≤ 4097 → is_long p ≡ false
is_not_long [] le = refl
is_not_long (c ∷ cs) le = let e = one_more c cs in not_above (length (path_text (c ∷ cs))) (omega (arith, le, e))

slashed_more : (p : List (List ℕ)) (a : List ℕ) → slashed (p ++ a ∷ []) ≡ slashed p + length a + 1
slashed_more [] a = omega arith
slashed_more (c ∷ p) a = let rest = slashed_more p a in omega (arith, rest)

get_from : (xs : List ℕ) (k x : ℕ) → slice_get xs k ≡ Some x → get_or xs k 0 ≡ x
get_from [] k x h = absurd cc
get_from (y ∷ xs) zero x h = cc
get_from (y ∷ xs) (suc k) x h = get_from xs k x h

-- each is at most so much, also beyond the end
abbrev pub AreShort : List ℕ → Type 0
AreShort xs = (k : ℕ) → get_or xs k 0 ≤ 4097

pub none_short : AreShort []
none_short k = omega arith

pub short_more : (xs : List ℕ) (y : ℕ) → AreShort xs → y ≤ 4097 → AreShort (xs ++ y ∷ [])
short_more [] y short low zero = low
short_more [] y short low (suc k) = omega arith
short_more (x ∷ xs) y short low zero = short 0
short_more (x ∷ xs) y short low (suc k) = short_more xs y (λ j. short (suc j)) low k

module _ (t : Tree) (sane : IsSane t) where
  -- the bytes of the path of a node, with a slash behind each component
  abbrev pub bytes_of : Entry → ℕ
  bytes_of e = slashed (path_of t e)

  pub record Has (lengths : List ℕ) (e : Entry) (s : Slot) (above : ℕ) : Type 0 where
    pub met : IsMet lengths s above
    pub bytes : slashed_at lengths s above ≡ bytes_of e

  -- those of a node are made from its parent's
  pub has : (lengths : List ℕ) (i above : ℕ) (e : Entry) (s : Slot) → slice_get (by_path t) i ≡ Some e → e.slot ≡ s → IsAbove (by_path t) s i above
      → lengths ≡ map bytes_of (take i (by_path t)) → AreShort lengths → Has lengths e s above
  has lengths i above e Root at slot known is short =
      let none : path_of t e ≡ [] = ap (path_up t t) slot in
      record { met = tt; bytes = sym (ap slashed none) }
  has lengths i above e (Below p n) at slot known is short =
      let d = named_by (slice_get (by_path t) above) p known.1 in
      let own : entry_of t d.0.name ≡ Some d.0 = held t sane above d.0 d.1 in
      let path : path_of t e ≡ path_of t d.0 ++ n ∷ [] = child_path t sane d.0 e n own (held t sane i e at) (slot ∙ ap (λ m. Below m n) (sym d.2)) in
      let there : slice_get lengths above ≡ Some (bytes_of d.0) =
      ap (λ l. slice_get l above) is ∙ get_map bytes_of (take i (by_path t)) above ∙ ap (option_map bytes_of) (take_at (by_path t) i above d.0 known.0 d.1) in
      record {
        met = (get_within lengths above (bytes_of d.0) there, short above);
        bytes = ap (λ m. m + length n + 1) (get_from lengths above (bytes_of d.0) there) ∙ sym (slashed_more (path_of t d.0) n) ∙ ap slashed (sym path);
      }

-- the first that passes, where none before it does
pub first_hit : {E P : Type 0} (test : P → Bool) (g : E → P) (es : List E) (i : ℕ) (e : E) → slice_get es i ≡ Some e → find test (map g (take i es)) ≡ None → test (g e) ≡ true → find test (map g es) ≡ Some (g e)
first_hit test g [] i e at none passes = absurd cc
first_hit test g (x ∷ es) zero e at none passes =
    let same : x ≡ e = cc in
    ap (λ b. cond b (Some (g x)) (find test (map g es))) (ap (λ y. test (g y)) same ∙ passes) ∙ ap (λ y. Some (g y)) same
first_hit test g (x ∷ es) (suc i) e at none passes =
    let f = first_fails test (g x) (map g (take i es)) none in
    ap (λ b. cond b (Some (g x)) (find test (map g es))) f.0 ∙ first_hit test g es i e at f.1 passes

-- one more that does not pass
pub none_more : {E P : Type 0} (test : P → Bool) (g : E → P) (es : List E) (i : ℕ) (e : E) → slice_get es i ≡ Some e → find test (map g (take i es)) ≡ None → test (g e) ≡ false → find test (map g (take (suc i) es)) ≡ None
none_more test g [] i e at none fails = absurd cc
none_more test g (x ∷ es) zero e at none fails =
    let same : x ≡ e = cc in
    ap (λ b. cond b (Some (g x)) (find test (map g (take 0 es)))) (ap (λ y. test (g y)) same ∙ fails)
none_more test g (x ∷ es) (suc i) e at none fails =
    let f = first_fails test (g x) (map g (take i es)) none in
    ap (λ b. cond b (Some (g x)) (find test (map g (take (suc i) es)))) f.0 ∙ none_more test g es i e at f.1 fails

-- what the loop knows of the lengths before a stop: they are those of the nodes, of which none is too long
abbrev pub IsSummed : Tree → List ℕ → ℕ → Type 0
IsSummed t lengths i =
    (lengths ≡ map (λ (e : Entry). slashed (path_of t e)) (take i (by_path t)))
    × (find is_long (map (path_of t) (take i (by_path t))) ≡ None)
    × AreShort lengths

-- and of the node at it
pub record AtStop (t : Tree) (sane : IsSane t) (lengths : List ℕ) (i above : ℕ) (e : Entry) : Type 0 where
  pub node : slice_get (by_path t) i ≡ Some e
  pub has : Has t sane lengths e e.slot above

module _ (t : Tree) (sane : IsSane t) (stops : List Stop) (are : AreStops t stops) (i : ℕ) (d : Stop) (low : i < length stops) where
  pub at_stop : (o : Option (Bor Entry)) (b : Bor Entry) → o ≡ Some b → option_copied o ≡ slice_get t (get_or stops i d).place
      → (lengths : List ℕ) → IsSummed t lengths i → AtStop t sane lengths i (get_or stops i d).above b.now
  at_stop o b got is lengths sum =
      let h = stop_has t stops are i d low in
      let e : Entry = h.0 in
      let same : e ≡ b.now = sym (copied_is o b e got (is ∙ h.1)) in
      subst (λ (x : Entry). AtStop t sane lengths i (get_or stops i d).above x) same
      (record { node = h.2; has = has t sane lengths i (get_or stops i d).above e e.slot h.2 refl h.3 sum.0 sum.2 })

  -- the node whose path is too long
  pub found_long : (e : Entry) (lengths : List ℕ) (length : ℕ) → AtStop t sane lengths i (get_or stops i d).above e → IsSummed t lengths i
      → length ≡ slashed_at lengths e.slot (get_or stops i d).above → 4097 < length
      → option_map (path_of t) (slice_get t (get_or stops i d).place) ≡ find is_long (map (path_of t) (by_path t))
  found_long e lengths length at sum is far =
      let h = stop_has t stops are i d low in
      let long : is_long (path_of t e) ≡ true = is_too_long (path_of t e) (subst (λ n. 4097 < n) (is ∙ at.has.bytes) far) in
      ap (option_map (path_of t)) (h.1 ∙ sym h.2 ∙ at.node) ∙ sym (first_hit is_long (path_of t) (by_path t) i e at.node sum.1 long)

  -- one more that is not
  pub summed_more : (e : Entry) (lengths lengths' : List ℕ) (length : ℕ) → AtStop t sane lengths i (get_or stops i d).above e → IsSummed t lengths i
      → length ≡ slashed_at lengths e.slot (get_or stops i d).above → length ≤ 4097 → lengths' ≡ lengths ++ length ∷ [] → IsSummed t lengths' (i + 1)
  summed_more e lengths lengths' length at sum is near more =
      let own : length ≡ slashed (path_of t e) = is ∙ at.has.bytes in
      let no_more : is_long (path_of t e) ≡ false = is_not_long (path_of t e) (subst (λ n. n ≤ 4097) own near) in
      let next : suc i ≡ i + 1 = omega arith in (
        met_more t (λ (e : Entry). slashed (path_of t e)) i e lengths lengths' length at.node own sum.0 more,
        subst (λ n. find is_long (map (path_of t) (take n (by_path t))) ≡ None) next (none_more is_long (path_of t) (by_path t) i e at.node sum.1 no_more),
        subst AreShort (sym more) (short_more lengths length sum.2 near),
      )

pub no_long : (t : Tree) (stops : List Stop) → AreStops t stops → (i : ℕ) → length stops ≤ i → (lengths : List ℕ) → IsSummed t lengths i → None ≡ find is_long (map (path_of t) (by_path t))
no_long t stops are i far lengths sum = sym sum.1 ∙ ap (find is_long) (all_met t (path_of t) stops are i far)
