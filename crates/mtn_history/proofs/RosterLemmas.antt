-- Rosters, rebuilt along their chains.
use Rattle.std.specs.Prelude.{IfSome, IsTrue, nat_lt, not, reverse, slice_get, option_and_then, ◌==◌, ◌&&◌}
use Rattle.std.specs.Option.{option_map_or}
use Rattle.std.proofs.Common.{◌≡◌, ◌≤◌, ◌<◌, ◌+◌, ℕ, zero, suc, Bool, true, false, cond, List, [], ◌∷◌, ◌++◌, length, take, drop, Option, Some, None, refl, sym, ap, ◌∙◌, subst, ◌⊎◌, ⊎_elim, inl, inr, arith}
use Rattle.std.proofs.lemmas.List.{length-append, length-reverse, append-nil, reverse-append, reverse-reverse}
use mathlib.Core.List.{reverse-cons}
use Rattle.std.proofs.lemmas.Bool.{cases_lt}
use Rattle.std.proofs.lemmas.Bool.Decides.{nat_tests}
use Rattle.std.proofs.Math.Nat.{eq-or-lt_of_le}
use Rattle.mtn_roster_deltas.specs.Chain.{Entries, applied, after_record, after_all, rebuilt, deepest, ascend}
use Rattle.mtn_roster_deltas.specs.Difference.{IsDifference}
use Rattle.mtn_roster_deltas.specs.Spelled.{Spells}
use Rattle.mtn_history_laws.specs.History.{Revision}
use Rattle.mtn_marking.specs.Graph.{IsMarkedAt}
use Rattle.mtn_marking.specs.Marking.{MarkedTree}
use Rattle.mtn_model.specs.Table.{Contents, body_at}
use Rattle.mtn_ports.specs.Kept.{Same, with_all}
use Rattle.mtn_ports.specs.declared.batch.Put.{Put}
use Rattle.mtn_records.specs.Bounds.{IsRosterAt, IsWithin}
use Rattle.mtn_records.specs.Fields.{number_text}
use Rattle.mtn_records.specs.Records.{roster_text}
use Rattle.mtn_records.specs.RecordsApart.{roster_apart}
use Rattle.mtn_records.specs.declared.record.RosterRecord.{RosterRecord}
use Rattle.mtn_records.specs.declared.record.RosterRecord.TheVariants.{Whole, Delta}
use Rattle.mtn_history.specs.Damage.{IsShown}
use Rattle.mtn_history.specs.Errors.{IfDamage}
use Rattle.mtn_history.specs.declared.errors.StoreError.{StoreError}
use Rattle.mtn_history.specs.declared.errors.StoreError.TheVariants.{Failed, Damaged, NoMemory}
use Rattle.mtn_history.specs.declared.errors.Damage.{Damage}
use Rattle.mtn_history.specs.declared.errors.Damage.TheVariants.{Bad, Missing}
use Rattle.mtn_history.specs.Revisions.{Kept, AreKept, AreRosters, IsRosterOf}
use Rattle.mtn_history.specs.Rosters.{IsRostered, IsChainDown, IsPathDown, IsChainOf, AreDeltasOn, AreEntriesAt, EndsAt, IsOnWalk, IsWalk, IsWalkOf, MeetsNoEarlier, AsksAlong, AsksOnce, IsRosterHeld, GivesNoTree, UnrosteredAt, UnrebuiltAt, UnmadeBelow, IsRebuilt, Rebuilds, base_of, places}
use Rattle.mtn_history.specs.declared.chains.Base.{Base}
use Rattle.mtn_history.specs.declared.chains.Chain.{Chain}
use Rattle.mtn_history.specs.declared.chains.End.{End}
use Rattle.mtn_history.specs.declared.chains.End.TheVariants.{ToWhole, ToBase, ToMeeting}
use Rattle.mtn_history.specs.Remembered.{RebuiltRoster}
use Rattle.mtn_history.proofs.LogLemmas.{told_on}
use Rattle.mtn_roster_deltas.proofs.Differing.{chain_grows, rebuilt_on}
use Rattle.mtn_roster_deltas.proofs.Spelling.{one_tree}
use Rattle.mtn_replay.proofs.Places.{within, inside}
use Rattle.mtn_history.specs.Revisions.{deeper, depth_on}

one_body : (o : Option (List ℕ)) (a b : List ℕ) → o ≡ Some a → o ≡ Some b → a ≡ b
one_body o a b x y = cc

-- a body is that of one record
one_roster : (r : ℕ) (a b : List ℕ) (x y : RosterRecord) → a ≡ b → IsRosterAt r a x → IsRosterAt r b y → x ≡ y
one_roster r a b x y same s t = let both = roster_apart x y [] [] s.formed t.formed (append-nil (roster_text x) ∙ sym s.whole ∙ same ∙ t.whole ∙ sym (append-nil (roster_text y))) in both.0

module _ (c : Contents) where
  one_rostered : (r : ℕ) (x y : RosterRecord) → IsRostered c r x → IsRostered c r y → x ≡ y
  one_rostered r x y a b = one_roster r a.body b.body x y (one_body (body_at c 5 (number_text r)) a.body b.body a.held b.held) a.text b.text

  -- a chain is told by where it begins
  pub one_chain : (r : ℕ) (xs ys : List RosterRecord) → IsChainDown c r xs → IsChainDown c r ys → xs ≡ ys
  one_chain r [] ys a b = absurd a
  one_chain r (x ∷ xs) [] a b = absurd b
  one_chain r (Whole es ∷ xs) (Whole fs ∷ ys) a b = λ i. one_rostered r (Whole es) (Whole fs) a.0 b.0 i ∷ (a.1 ∙ sym b.1) i
  one_chain r (Whole es ∷ xs) (Delta base d g ch ∷ ys) a b = absurd (let same = one_rostered r (Whole es) (Delta base d g ch) a.0 b.0 in cc)
  one_chain r (Delta base d g ch ∷ xs) (Whole fs ∷ ys) a b = absurd (let same = one_rostered r (Delta base d g ch) (Whole fs) a.0 b.0 in cc)
  one_chain r (Delta base d g ch ∷ xs) (Delta base' d' g' ch' ∷ ys) a b =
      let same = one_rostered r (Delta base d g ch) (Delta base' d' g' ch') a.0 b.0 in
      let down : base' ≡ base = cc in
      λ i. same i ∷ one_chain base xs ys a.1 (subst (λ k. IsChainDown c k ys) down b.1) i

  -- one record more
  pub path_more : (r to b d : ℕ) (g : List ℕ) (ch : Entries) (rs : List RosterRecord) → IsPathDown c r rs to → IsRostered c to (Delta b d g ch) → IsPathDown c r (rs ++ Delta b d g ch ∷ []) b
  path_more r to b d g ch [] p here = (subst (λ k. IsRostered c k (Delta b d g ch)) p here, refl)
  path_more r to b d g ch (Whole es ∷ rs) p here = absurd p
  path_more r to b d g ch (Delta base e h k ∷ rs) p here = (p.0, path_more base to b d g ch rs p.1 here)

  pub path_ends : (r to : ℕ) (es : Entries) (rs : List RosterRecord) → IsPathDown c r rs to → IsRostered c to (Whole es) → IsChainDown c r (rs ++ Whole es ∷ [])
  path_ends r to es [] p here = (subst (λ k. IsRostered c k (Whole es)) p here, refl)
  path_ends r to es (Whole fs ∷ rs) p here = absurd p
  path_ends r to es (Delta base e h k ∷ rs) p here = (p.0, path_ends base to es rs p.1 here)

  -- a path and the chain below it are a chain
  path_on : (r to : ℕ) (rs chain : List RosterRecord) → IsPathDown c r rs to → IsChainDown c to chain → IsChainDown c r (rs ++ chain)
  path_on r to [] chain p below = subst (λ k. IsChainDown c k chain) p below
  path_on r to (Whole es ∷ rs) chain p below = absurd p
  path_on r to (Delta base d g ch ∷ rs) chain p below = (p.0, path_on base to rs chain p.1 below)

  -- a path leads down
  pub path_low : (r to : ℕ) (rs : List RosterRecord) → IsPathDown c r rs to → to ≤ r
  path_low r to [] p = omega (arith, p)
  path_low r to (Whole es ∷ rs) p = absurd p
  path_low r to (Delta base d g ch ∷ rs) p = let low = path_low base to rs p.1 in let under : base < r = p.0.text.within.0 in omega (arith, low, under)

  -- a chain is longer than each path from its place
  longer : (r to : ℕ) (rs chain : List RosterRecord) → IsPathDown c r rs to → IsChainDown c r chain → length rs < length chain
  longer r to rs [] p q = absurd q
  longer r to [] (x ∷ chain) p q = omega arith
  longer r to (Whole es ∷ rs) (x ∷ chain) p q = absurd p
  longer r to (Delta base d g ch ∷ rs) (Whole es ∷ chain) p q = absurd (let same = one_rostered r (Delta base d g ch) (Whole es) p.0 q.0 in cc)
  longer r to (Delta base d g ch ∷ rs) (Delta base' d' g' ch' ∷ chain) p q =
      let same = one_rostered r (Delta base d g ch) (Delta base' d' g' ch') p.0 q.0 in
      let down : base' ≡ base = cc in
      let more = longer base to rs chain p.1 (subst (λ k. IsChainDown c k chain) down q.1) in
      omega (arith, more)

  -- paths of one length from one place lead to one place
  path_one : (r m n : ℕ) (a b : List RosterRecord) → IsPathDown c r a m → IsPathDown c r b n → length a ≡ length b → m ≡ n
  path_one r m n [] [] p q e = p ∙ sym q
  path_one r m n [] (x ∷ b) p q e = absurd (omega (arith, e))
  path_one r m n (x ∷ a) [] p q e = absurd (omega (arith, e))
  path_one r m n (Whole es ∷ a) (y ∷ b) p q e = absurd p
  path_one r m n (Delta base d g ch ∷ a) (Whole es ∷ b) p q e = absurd q
  path_one r m n (Delta base d g ch ∷ a) (Delta base' d' g' ch' ∷ b) p q e =
      let same = one_rostered r (Delta base d g ch) (Delta base' d' g' ch') p.0 q.0 in
      let down : base' ≡ base = cc in
      path_one base m n a b p.1 (subst (λ k. IsPathDown c k b n) down q.1) (omega (arith, e))

  -- a shorter path leads to a place of a path, or of a chain
  place_on_path : (r to m : ℕ) (xs a : List RosterRecord) → IsPathDown c r xs to → IsPathDown c r a m → length a < length xs → slice_get (places r xs) (length a) ≡ Some m
  place_on_path r to m [] a p q lt = absurd (omega (arith, lt))
  place_on_path r to m (Whole es ∷ xs) a p q lt = absurd p
  place_on_path r to m (Delta base d g ch ∷ xs) [] p q lt = ap Some (sym q)
  place_on_path r to m (Delta base d g ch ∷ xs) (Whole es ∷ a) p q lt = absurd q
  place_on_path r to m (Delta base d g ch ∷ xs) (Delta base' d' g' ch' ∷ a) p q lt =
      let same = one_rostered r (Delta base d g ch) (Delta base' d' g' ch') p.0 q.0 in
      let down : base' ≡ base = cc in
      place_on_path base to m xs a p.1 (subst (λ k. IsPathDown c k a m) down q.1) (omega (arith, lt))

  place_on_chain : (r m : ℕ) (xs a : List RosterRecord) → IsChainDown c r xs → IsPathDown c r a m → length a < length xs → slice_get (places r xs) (length a) ≡ Some m
  place_on_chain r m [] a p q lt = absurd p
  place_on_chain r m (Whole es ∷ xs) [] p q lt = ap Some (sym q)
  place_on_chain r m (Whole es ∷ xs) (Whole fs ∷ a) p q lt = absurd q
  place_on_chain r m (Whole es ∷ xs) (Delta base d g ch ∷ a) p q lt = absurd (let same = one_rostered r (Whole es) (Delta base d g ch) p.0 q.0 in cc)
  place_on_chain r m (Delta base d g ch ∷ xs) [] p q lt = ap Some (sym q)
  place_on_chain r m (Delta base d g ch ∷ xs) (Whole es ∷ a) p q lt = absurd q
  place_on_chain r m (Delta base d g ch ∷ xs) (Delta base' d' g' ch' ∷ a) p q lt =
      let same = one_rostered r (Delta base d g ch) (Delta base' d' g' ch') p.0 q.0 in
      let down : base' ≡ base = cc in
      place_on_chain base m xs a p.1 (subst (λ k. IsPathDown c k a m) down q.1) (omega (arith, lt))

  -- a place of a path, or of a chain, cuts it in two
  split_path : (r to m i : ℕ) (xs : List RosterRecord) → IsPathDown c r xs to → slice_get (places r xs) i ≡ Some m → IsPathDown c r (take i xs) m × IsPathDown c m (drop i xs) to
  split_path r to m i [] p at = absurd cc
  split_path r to m i (Whole es ∷ xs) p at = absurd p
  split_path r to m zero (Delta base d g ch ∷ xs) p at = let same : r ≡ m = cc in (sym same, subst (λ k. IsPathDown c k (Delta base d g ch ∷ xs) to) same p)
  split_path r to m (suc i) (Delta base d g ch ∷ xs) p at = let rest = split_path base to m i xs p.1 at in ((p.0, rest.0), rest.1)

  split_chain : (r m i : ℕ) (xs : List RosterRecord) → IsChainDown c r xs → slice_get (places r xs) i ≡ Some m → IsPathDown c r (take i xs) m × IsChainDown c m (drop i xs)
  split_chain r m i [] p at = absurd p
  split_chain r m zero (Whole es ∷ xs) p at = let same : r ≡ m = cc in (sym same, subst (λ k. IsChainDown c k (Whole es ∷ xs)) same p)
  split_chain r m (suc i) (Whole es ∷ xs) p at = absurd cc
  split_chain r m zero (Delta base d g ch ∷ xs) p at = let same : r ≡ m = cc in (sym same, subst (λ k. IsChainDown c k (Delta base d g ch ∷ xs)) same p)
  split_chain r m (suc i) (Delta base d g ch ∷ xs) p at = let rest = split_chain base m i xs p.1 at in ((p.0, rest.0), rest.1)

  -- the same of records by what they end at
  place_on_end : (r top m : ℕ) (beside xs a : List RosterRecord) (end : End) → EndsAt c r top beside xs end → IsPathDown c r a m → length a < length xs → slice_get (places r xs) (length a) ≡ Some m
  place_on_end r top m beside xs a ToWhole p q lt = place_on_chain r m xs a p q lt
  place_on_end r top m beside xs a (ToBase known) p q lt = place_on_path r p.base m xs a p.path q lt
  place_on_end r top m beside xs a (ToMeeting at) p q lt = place_on_path r at m xs a p.0 q lt

  pub split_end : (r m i : ℕ) (xs : List RosterRecord) (end : End) → EndsAt c r r [] xs end → slice_get (places r xs) i ≡ Some m → IsPathDown c r (take i xs) m × EndsAt c m m [] (drop i xs) end
  split_end r m i xs ToWhole p at = split_chain r m i xs p at
  split_end r m i xs (ToBase known) p at = let two = split_path r p.base m i xs p.path at in (two.0, record { base = p.base; path = two.1; right = p.right })
  split_end r m i xs (ToMeeting q) p at = absurd (let none = p.1.1 in cc)

  -- records are no more than a chain from their place has
  no_longer : (r top : ℕ) (beside xs chain : List RosterRecord) (end : End) → EndsAt c r top beside xs end → IsChainDown c r chain → length xs ≤ length chain
  no_longer r top beside xs chain ToWhole p down = let same = ap length (one_chain r xs chain p down) in omega (arith, same)
  no_longer r top beside xs chain (ToBase known) p down = let less = longer r p.base xs chain p.path down in omega (arith, less)
  no_longer r top beside xs chain (ToMeeting at) p down = let less = longer r at xs chain p.0 down in omega (arith, less)

  -- one record more comes to no place of the chain beside it, if its own place is none
  first_next : (r to top : ℕ) (beside rs : List RosterRecord) (x : RosterRecord) → IsPathDown c r rs to → MeetsNoEarlier c r top beside rs → ((i : ℕ) → slice_get (places top beside) i ≡ Some to → ⊥) →
      MeetsNoEarlier c r top beside (rs ++ x ∷ [])
  first_next r to top beside rs x path first none above at i p q =
      ⊎_elim (λ same. absurd (none i (q ∙ ap Some (path_one r at to above rs p path (sym same))))) (λ less. omega (arith, less, length-append rs (x ∷ []))) (eq-or-lt_of_le (first above at i p q))

  -- what is at hand at the place that a path leads to is the path's end
  ends_on : (r next top : ℕ) (beside rs : List RosterRecord) (end : End) → IsPathDown c r rs next → EndsAt c next top beside [] end → EndsAt c r top beside rs end
  ends_on r next top beside rs ToWhole path here = absurd here
  ends_on r next top beside rs (ToBase known) path here = record { base = here.base; path = subst (IsPathDown c r rs) (sym here.path) path; right = here.right }
  ends_on r next top beside rs (ToMeeting at) path here = (subst (IsPathDown c r rs) (sym here.0) path, here.1)

  -- records that two walks read, the second down to where it comes to the first
  pub asks_once : (left right before after : ℕ) (xs ys : List RosterRecord) (one other : End) → EndsAt c left left [] xs one → IsWalk c right left xs ys other → after ≤ before + (length xs + length ys) → AsksOnce c left right before after
  asks_once left right before after xs ys one other ours theirs few a b shared at pa pb down =
      let long = no_longer left left [] xs (a ++ shared) one ours (path_on left at a shared pa down) in
      let far = no_longer right left xs ys (b ++ shared) other theirs.ends (path_on right at b shared pb down) in
      ⊎_elim
      (λ less. let near = theirs.first b at (length a) pb (place_on_end left left at [] xs a one ours pa less) in omega (arith, few, long, near, length-append a shared))
      (λ more. omega (arith, few, far, more, length-append b shared))
      (cases_lt (length a) (length xs))

  -- records of one of them alone
  pub asks_alone : (left right before after : ℕ) → AsksAlong c left before after → AsksOnce c left right before after
  asks_alone left right before after along a b shared at pa pb down = let few = along (a ++ shared) (path_on left at a shared pa down) in omega (arith, few, length-append a shared)

  pub asks_alone_right : (left right before after : ℕ) → AsksAlong c right before after → AsksOnce c left right before after
  asks_alone_right left right before after along a b shared at pa pb down = let few = along (b ++ shared) (path_on right at b shared pb down) in omega (arith, few, length-append b shared)

-- a delta that may follow is within the deepest
within_depth : (d depth : ℕ) (o : Option Entries) (fs : Entries) → cond ((d == depth) && not (nat_lt deepest depth)) o None ≡ Some fs → depth ≤ 15
within_depth d depth o fs e = by ((d == depth) && not (nat_lt deepest depth)) refl e
  where
    by : (b : Bool) → ((d == depth) && not (nat_lt deepest depth)) ≡ b → cond b o None ≡ Some fs → depth ≤ 15
    by true is h = grind (arith, nat_tests)
    by false is h = absurd cc

then : {A B : Type 0} (f : A → Option B) (o : Option A) (b : B) → option_and_then f o ≡ Some b → (a : A) × (o ≡ Some a) × (f a ≡ Some b)
then f None b e = absurd cc
then f (Some a) b e = (a, refl, e)

after_short : (depth : ℕ) (es fs : Entries) (rs : List RosterRecord) → after_all depth es rs ≡ Some fs → (length rs ≡ 0) ⊎ (depth + length rs ≤ 16)
after_short depth es fs [] e = inl refl
after_short depth es fs (Whole all ∷ rs) e = absurd (let t = then (λ gs. after_all (depth + 1) gs rs) (after_record depth es (Whole all)) fs e in cc)
after_short depth es fs (Delta base d g ch ∷ rs) e =
    let t = then (λ gs. after_all (depth + 1) gs rs) (after_record depth es (Delta base d g ch)) fs e in
    let low = within_depth d depth (applied es g ch) t.0 t.1 in
    inr (⊎_elim (λ none. omega (arith, low, none)) (λ some. omega (arith, some)) (after_short (depth + 1) t.0 fs rs t.2))

pub rebuilt_short : (rs : List RosterRecord) (es : Entries) → rebuilt rs ≡ Some es → length rs ≤ 16
rebuilt_short [] es e = omega arith
rebuilt_short (Delta base d g ch ∷ rs) es e = absurd cc
rebuilt_short (Whole all ∷ rs) es e = by (ascend all) refl e
  where
    by : (b : Bool) → ascend all ≡ b → cond b (after_all 1 all rs) None ≡ Some es → length (Whole all ∷ rs) ≤ 16
    by true is h = ⊎_elim (λ none. omega (arith, none)) (λ some. omega (arith, some)) (after_short 1 all es rs h)
    by false is h = absurd cc

-- nothing is rebuilt of no record
pub rebuilt_some : (rs : List RosterRecord) (es : Entries) → rebuilt rs ≡ Some es → 0 < length rs
rebuilt_some [] es e = absurd cc
rebuilt_some (r ∷ rs) es e = omega arith

-- deltas that give entries leave the depth a byte
pub depth_fits : (depth : ℕ) (es fs : Entries) (rs : List RosterRecord) → depth < 256 → after_all (depth + 1) es rs ≡ Some fs → depth + length rs < 256
depth_fits depth es fs rs lt made = ⊎_elim (λ none. omega (arith, none, lt)) (λ some. omega (arith, some)) (after_short (depth + 1) es fs rs made)

-- sixteen records and no whole one are no chain that gives entries
too_deep : (c : Contents) (r to top : ℕ) (beside rs : List RosterRecord) → IsPathDown c r rs to → length rs ≡ 16 → IsWalkOf c r top beside None
too_deep c r to top beside rs path long chain es down made =
    let short = rebuilt_short (reverse chain) es made in
    let more = longer c r to rs chain path down in
    omega (arith, short, more, long, length-reverse chain)

-- what was found wrong at a place of the path
unmade_at : (c : Contents) (at next : ℕ) (e : StoreError) → next ≤ at → IfDamage e (UnrosteredAt c next) → IfDamage e (UnmadeBelow (at + 1) c)
unmade_at c at next Failed le h = tt
unmade_at c at next NoMemory le h = tt
unmade_at c at next (Damaged d) le h = record { place = next; below = omega (arith, le); wrong = inl h }

pub unmade : (told : Option Contents) (ps : List Put) (at next : ℕ) (e : StoreError) → next ≤ at → IfSome told (λ c. IfDamage e (UnrosteredAt (with_all c ps) next)) → IfSome told (λ c. IfDamage e (UnmadeBelow (at + 1) (with_all c ps)))
unmade None ps at next e le h = tt
unmade (Some c) ps at next e le h = unmade_at (with_all c ps) at next e le h

path_next_at : (c : Contents) (at next b : ℕ) (rs : List RosterRecord) (x : RosterRecord) → IsPathDown c at rs next → IsRostered c next x → base_of x ≡ Some b → IsPathDown c at (rs ++ x ∷ []) b
path_next_at c at next b rs (Whole es) path here is = absurd cc
path_next_at c at next b rs (Delta base d g ch) path here is = let same : base ≡ b = cc in subst (IsPathDown c at (rs ++ Delta base d g ch ∷ [])) same (path_more c at next base d g ch rs path here)

pub path_next : (mid new : Option Contents) (ps : List Put) (at next b : ℕ) (rs more : List RosterRecord) (x : RosterRecord) → Same mid new → IfSome mid (λ c. IsPathDown (with_all c ps) at rs next) →
    IfSome new (λ c. IsRostered (with_all c ps) next x) → base_of x ≡ Some b → more ≡ rs ++ x ∷ [] → IfSome new (λ c. IsPathDown (with_all c ps) at more b)
path_next mid None ps at next b rs more x same path here is grown = tt
path_next mid (Some c) ps at next b rs more x same path here is grown =
    subst (λ l. IsPathDown (with_all c ps) at l b) (sym grown) (path_next_at (with_all c ps) at next b rs x (told_on mid (Some c) (λ d. IsPathDown (with_all d ps) at rs next) same path c refl) here is)

chain_whole_at : (c : Contents) (at next : ℕ) (rs : List RosterRecord) (x : RosterRecord) → IsPathDown c at rs next → IsRostered c next x → base_of x ≡ None → IsChainDown c at (rs ++ x ∷ [])
chain_whole_at c at next rs (Whole es) path here is = path_ends c at next es rs path here
chain_whole_at c at next rs (Delta base d g ch) path here is = absurd cc

pub first_more : (mid new : Option Contents) (ps : List Put) (at next top : ℕ) (beside rs more : List RosterRecord) (x : RosterRecord) → Same mid new → IfSome mid (λ c. IsPathDown (with_all c ps) at rs next) →
    IfSome mid (λ c. MeetsNoEarlier (with_all c ps) at top beside rs) → ((i : ℕ) → slice_get (places top beside) i ≡ Some next → ⊥) → more ≡ rs ++ x ∷ [] → IfSome new (λ c. MeetsNoEarlier (with_all c ps) at top beside more)
first_more mid None ps at next top beside rs more x same path first none grown = tt
first_more mid (Some c) ps at next top beside rs more x same path first none grown =
    subst (MeetsNoEarlier (with_all c ps) at top beside) (sym grown)
    (first_next (with_all c ps) at next top beside rs x (told_on mid (Some c) (λ d. IsPathDown (with_all d ps) at rs next) same path c refl)
    (told_on mid (Some c) (λ d. MeetsNoEarlier (with_all d ps) at top beside rs) same first c refl) none)

-- a walk that ends at a whole record, or at what is at hand there
pub walk_whole : (mid new : Option Contents) (ps : List Put) (at next top : ℕ) (beside rs more : List RosterRecord) (x : RosterRecord) → Same mid new → IfSome mid (λ c. IsPathDown (with_all c ps) at rs next) →
    IfSome new (λ c. IsRostered (with_all c ps) next x) → base_of x ≡ None → more ≡ rs ++ x ∷ [] → IfSome new (λ c. MeetsNoEarlier (with_all c ps) at top beside more) → IfSome new (λ c. IsWalk (with_all c ps) at top beside more ToWhole)
walk_whole mid None ps at next top beside rs more x same path here is grown first = tt
walk_whole mid (Some c) ps at next top beside rs more x same path here is grown first = record {
  ends = subst (IsChainDown (with_all c ps) at) (sym grown) (chain_whole_at (with_all c ps) at next rs x (told_on mid (Some c) (λ d. IsPathDown (with_all d ps) at rs next) same path c refl) here is);
  first = first;
}

pub walk_ends : (told : Option Contents) (ps : List Put) (at next top : ℕ) (beside rs : List RosterRecord) (end : End) → IfSome told (λ c. IsPathDown (with_all c ps) at rs next) →
    IfSome told (λ c. MeetsNoEarlier (with_all c ps) at top beside rs) → IfSome told (λ c. EndsAt (with_all c ps) next top beside [] end) → IfSome told (λ c. IsWalk (with_all c ps) at top beside rs end)
walk_ends None ps at next top beside rs end path first here = tt
walk_ends (Some c) ps at next top beside rs end path first here = record { ends = ends_on (with_all c ps) at next top beside rs end path here; first = first }

-- a walk's path and what it meets, in one
pub on_walk : (told : Option Contents) (ps : List Put) (at next top : ℕ) (beside rs : List RosterRecord) → IfSome told (λ c. IsPathDown (with_all c ps) at rs next) → IfSome told (λ c. MeetsNoEarlier (with_all c ps) at top beside rs) →
    IfSome told (λ c. IsOnWalk (with_all c ps) at top beside rs next)
on_walk None ps at next top beside rs path first = tt
on_walk (Some c) ps at next top beside rs path first = record { path = path; first = first }

pub no_chain : (told : Option Contents) (ps : List Put) (at next top : ℕ) (beside rs : List RosterRecord) → IfSome told (λ c. IsPathDown (with_all c ps) at rs next) → length rs ≡ 16 → IfSome told (λ c. IsWalkOf (with_all c ps) at top beside None)
no_chain None ps at next top beside rs path long = tt
no_chain (Some c) ps at next top beside rs path long = too_deep (with_all c ps) at next top beside rs path long

-- a record that gives no tree is shown
pub unrebuilt_below : (c : Contents) (at n : ℕ) (e : StoreError) → at < n → GivesNoTree c at → IfDamage e (IsRosterHeld c at) → IfDamage e (UnmadeBelow n c)
unrebuilt_below c at n Failed lt none held = tt
unrebuilt_below c at n NoMemory lt none held = tt
unrebuilt_below c at n (Damaged d) lt none held = record { place = at; below = lt; wrong = inr (held, none) }

-- no chain gives entries
pub unrebuilt_none : (mid new : Option Contents) (ps : List Put) (at top : ℕ) (beside : List RosterRecord) (e : StoreError) → Same mid new → IfSome mid (λ c. IsWalkOf (with_all c ps) at top beside None) →
    IfSome new (λ c. IfDamage e (IsRosterHeld (with_all c ps) at)) → IfSome new (λ c. IfDamage e (UnmadeBelow (at + 1) (with_all c ps)))
unrebuilt_none mid None ps at top beside e same none held = tt
unrebuilt_none mid (Some c) ps at top beside e same none held =
    unrebuilt_below (with_all c ps) at (at + 1) e (omega arith) (λ chain es t down made spelled. told_on mid (Some c) (λ d. IsWalkOf (with_all d ps) at top beside None) same none c refl chain es down made) held

-- the chain gives no tree
pub unrebuilt_bad : (mid new : Option Contents) (ps : List Put) (at : ℕ) (e : StoreError) (chain : Chain) → Same mid new → IfSome mid (λ c. IsWalk (with_all c ps) at at [] chain.records.items chain.end) →
    ((c : Contents) (r : ℕ) → IsChainOf c r chain → GivesNoTree c r) →
    IfSome new (λ c. IfDamage e (IsRosterHeld (with_all c ps) at)) → IfSome new (λ c. IfDamage e (UnmadeBelow (at + 1) (with_all c ps)))
unrebuilt_bad mid None ps at e chain same is bad held = tt
unrebuilt_bad mid (Some c) ps at e chain same is bad held =
    unrebuilt_below (with_all c ps) at (at + 1) e (omega arith) (bad (with_all c ps) at (told_on mid (Some c) (λ d. IsWalk (with_all d ps) at at [] chain.records.items chain.end) same is c refl).ends) held

pub is_rebuilt : (told : Option Contents) (ps : List Put) (at : ℕ) (chain : Chain) (found : RebuiltRoster) → IfSome told (λ c. IsWalk (with_all c ps) at at [] chain.records.items chain.end) →
    ((c : Contents) (r : ℕ) → IsChainOf c r chain → Rebuilds c r found) → IfSome told (λ c. Rebuilds (with_all c ps) at found)
is_rebuilt None ps at chain found is gives = tt
is_rebuilt (Some c) ps at chain found is gives = gives (with_all c ps) at is.ends

pub asks_along : (told : Option Contents) (ps : List Put) (at before after : ℕ) (chain : Chain) → IfSome told (λ c. IsWalk (with_all c ps) at at [] chain.records.items chain.end) → after ≤ before + length chain.records.items →
    IfSome told (λ c. AsksAlong (with_all c ps) at before after)
asks_along None ps at before after chain is few = tt
asks_along (Some c) ps at before after chain is few = λ all down. let long = no_longer (with_all c ps) at at [] chain.records.items all chain.end is.ends down in omega (arith, few, long)

-- the entries of a chain that was read down to its whole record
module _ (c : Contents) (at : ℕ) (records : List RosterRecord) (down : IsChainDown c at (reverse records)) where
  pub entries_whole : (es : Entries) (depth : ℕ) → rebuilt records ≡ Some es → ascend es ≡ true → length records ≡ depth + 1 → AreEntriesAt c at es depth
  entries_whole es depth made rises long = record {
    chain = reverse records;
    down = down;
    entries = ap rebuilt (reverse-reverse records) ∙ made;
    ascending = rises;
    deltas = length-reverse records ∙ long;
  }

  pub none_whole : rebuilt records ≡ None → GivesNoTree c at
  none_whole bad chain es t other made spelled =
      let one : chain ≡ reverse records = one_chain c at chain (reverse records) other down in
      let none : None ≡ Some es = sym bad ∙ sym (ap rebuilt (ap reverse one ∙ reverse-reverse records)) ∙ made in
      cc

-- the tree that entries spell
module _ (c : Contents) (at : ℕ) (es : Entries) (depth : ℕ) (are : AreEntriesAt c at es depth) where
  pub rebuilt_spelled : (t : MarkedTree) → Spells es t → IsRebuilt c at es t depth
  rebuilt_spelled t spelled = record { chain = are.chain; down = are.down; entries = are.entries; spelled = spelled; deltas = are.deltas }

  pub none_spelled : ((t : MarkedTree) → Spells es t → ⊥) → GivesNoTree c at
  none_spelled bad chain fs t other made spelled =
      let one : chain ≡ are.chain = one_chain c at chain are.chain other are.down in
      let same : Some fs ≡ Some es = sym made ∙ ap (λ l. rebuilt (reverse l)) one ∙ are.entries in
      let is : fs ≡ es = cc in
      bad t (subst (λ gs. Spells gs t) is spelled)

pub entries_rebuilt : (c : Contents) (at : ℕ) (r : RebuiltRoster) → Rebuilds c at r → AreEntriesAt c at r.entries r.depth
entries_rebuilt c at r is = record { chain = is.chain; down = is.down; entries = is.entries; ascending = is.spelled.ascending; deltas = is.deltas }

-- and one that ends at known entries
module _ (c : Contents) (at : ℕ) (deltas : List RosterRecord) (known : Base) (up : AreDeltasOn c at (reverse deltas) known) where
  all_down : IsChainDown c at (reverse deltas ++ up.right.chain)
  all_down = path_on c at up.base (reverse deltas) up.right.chain up.path up.right.down

  made_above : rebuilt (reverse (reverse deltas ++ up.right.chain)) ≡ after_all (known.depth + 1) known.entries deltas
  made_above =
      ap rebuilt (reverse-append (reverse deltas) up.right.chain ∙ ap (λ l. reverse up.right.chain ++ l) (reverse-reverse deltas))
      ∙ rebuilt_on (reverse up.right.chain) deltas known.entries up.right.entries
      ∙ ap (λ n. after_all n known.entries deltas) (length-reverse up.right.chain ∙ up.right.deltas)

  pub rebuilt_above : (depth : ℕ) (es : Entries) (t : MarkedTree) → after_all (known.depth + 1) known.entries deltas ≡ Some es → Spells es t → depth ≡ known.depth + length deltas → IsRebuilt c at es t depth
  rebuilt_above depth es t made spelled is = record {
    chain = reverse deltas ++ up.right.chain;
    down = all_down;
    entries = made_above ∙ made;
    spelled = spelled;
    deltas = length-append (reverse deltas) up.right.chain ∙ omega (arith, length-reverse deltas, up.right.deltas, is);
  }

  pub none_above : (known.depth ≤ deepest → IsTrue (ascend known.entries) → (es : Entries) (t : MarkedTree) → after_all (known.depth + 1) known.entries deltas ≡ Some es → Spells es t → ⊥) → GivesNoTree c at
  none_above bad chain es t other made spelled =
      let one : chain ≡ reverse deltas ++ up.right.chain = one_chain c at chain (reverse deltas ++ up.right.chain) other all_down in
      let short : known.depth ≤ 15 = omega (arith, rebuilt_short (reverse up.right.chain) known.entries up.right.entries, length-reverse up.right.chain, up.right.deltas) in
      bad short up.right.ascending es t (sym made_above ∙ sym (ap (λ l. rebuilt (reverse l)) one) ∙ made) spelled

pub one_more_record : (rs more : List RosterRecord) (x : RosterRecord) (n : ℕ) → length rs ≡ n → more ≡ rs ++ x ∷ [] → length more ≡ n + 1
one_more_record rs more x n long is = ap length is ∙ omega (arith, length-append rs (x ∷ []), long)

pub stays_low : (x : RosterRecord) (at next b : ℕ) → base_of x ≡ Some b → IsWithin next x → next ≤ at → b ≤ at
stays_low (Whole es) at next b is within le = absurd cc
stays_low (Delta base d g ch) at next b is within le = let same : base ≡ b = cc in let under : base < next = within.0 in omega (arith, same, under, le)

-- one delta deeper, where the record is a delta
one_deeper : (below depth : ℕ) → depth ≡ deeper below → 0 < depth → (below < 15) × (depth ≡ below + 1)
one_deeper below depth is some = by (nat_lt below deepest) refl is
  where
    by : (b : Bool) → nat_lt below deepest ≡ b → depth ≡ cond b (below + 1) 0 → (below < 15) × (depth ≡ below + 1)
    by true test e = (grind (arith, nat_tests), e)
    by false test e = absurd (omega (arith, e, some))

-- the chain of a revision's roster
pub record Chained (c : Contents) (r depth : ℕ) (entries : Entries) : Type 0 where
  pub chain : List RosterRecord
  pub down : IsChainDown c r chain
  pub made : rebuilt (reverse chain) ≡ Some entries
  pub long : length chain ≡ suc depth

pub whole_chained : (c : Contents) (r : ℕ) (body : List ℕ) (es : Entries) → ascend es ≡ true → body_at c 5 (number_text r) ≡ Some body → IsRosterAt r body (Whole es) → Chained c r 0 es
whole_chained c r body es rise held text = record {
  chain = Whole es ∷ [];
  down = (record { body = body; held = held; text = text }, refl);
  made = ap (λ b. cond b (Some es) None) rise;
  long = refl;
}

pub delta_chained : (c : Contents) (r base depth below : ℕ) (body g : List ℕ) (ch es fs : Entries) → ascend fs ≡ true → body_at c 5 (number_text r) ≡ Some body → IsRosterAt r body (Delta base depth g ch) →
    Chained c base below es → IsDifference es fs g ch → below < 15 → depth ≡ below + 1 → Chained c r depth fs
delta_chained c r base depth below body g ch es fs rise held text chained differ low is =
    let long : length (reverse chained.chain) ≡ depth = length-reverse chained.chain ∙ chained.long ∙ omega (arith, is) in
    let grown = chain_grows (reverse chained.chain) es fs ch g base (omega (arith, long, low, is)) chained.made rise differ in
    record {
      chain = Delta base depth g ch ∷ chained.chain;
      down = (record { body = body; held = held; text = text }, chained.down);
      made = ap rebuilt (reverse-cons (Delta base depth g ch) chained.chain) ∙ subst (λ d. rebuilt (reverse chained.chain ++ Delta base d g ch ∷ []) ≡ Some fs) long grown;
      long = omega (arith, chained.long, is);
    }

module _ (c : Contents) (h : List Revision) (ks : List Kept) (kept : AreKept h ks) (rosters : AreRosters h ks (c 5)) where
  rises_at : (r : ℕ) (v : Revision) (k : Kept) → slice_get h r ≡ Some v → slice_get ks r ≡ Some k → ascend k.entries ≡ true
  rises_at r v k hv hk = (kept.each r v k hv hk).numbered.spells.ascending

  from : (n r : ℕ) (v : Revision) (k : Kept) → slice_get h r ≡ Some v → slice_get ks r ≡ Some k → k.depth ≡ n →
      ((p : ℕ) (u : Revision) (below : Kept) → slice_get h p ≡ Some u → slice_get ks p ≡ Some below → below.depth + 1 ≡ n → Chained c p below.depth below.entries) →
      (parents : List ℕ) → k.depth ≡ depth_on ks parents →
      (body : List ℕ) → body_at c 5 (number_text r) ≡ Some body → (x : RosterRecord) → IsRosterOf ks parents k x → IsRosterAt r body x → Chained c r k.depth k.entries
  from n r v k hv hk e lower parents d body held (Whole es) is text =
      let one = whole_chained c r body es (ap ascend is.1 ∙ rises_at r v k hv hk) held text in
      subst (λ m. Chained c r m k.entries) (sym is.0) (subst (Chained c r 0) is.1 one)
  from n r v k hv hk e lower [] d body held (Delta base depth g ch) is text = absurd is
  from n r v k hv hk e lower (p ∷ ps) d body held (Delta base depth g ch) is text =
      let below = is.3.0 in
      let at : slice_get ks p ≡ Some below = is.3.1 in
      let next = one_deeper below.depth k.depth (d ∙ ap (λ o. option_map_or (λ (x : Kept). deeper x.depth) o 0) at) (omega (arith, is.1, is.2)) in
      let u = within h p (subst (λ m. p < m) kept.long (inside ks p below at)) in
      let down = lower p u.0 below u.1 at (sym next.1 ∙ e) in
      subst (λ m. Chained c r m k.entries) is.1
      (delta_chained c r base depth below.depth body g ch below.entries k.entries (rises_at r v k hv hk) held text (subst (λ q. Chained c q below.depth below.entries) (sym is.0) down) is.3.2 next.0 (is.1 ∙ next.1))

  chained : (n r : ℕ) (v : Revision) (k : Kept) → slice_get h r ≡ Some v → slice_get ks r ≡ Some k → k.depth ≡ n → Chained c r k.depth k.entries
  chained zero r v k hv hk e =
      let b = rosters.each r v k hv hk in
      from zero r v k hv hk e (λ p u below hu hb s. absurd (omega (arith, s))) v.parents (kept.each r v k hv hk).depth b.0 b.1 b.2.roster b.2.is b.2.text
  chained (suc n) r v k hv hk e =
      let b = rosters.each r v k hv hk in
      from (suc n) r v k hv hk e (λ p u below hu hb s. chained n p u below hu hb (omega (arith, s))) v.parents (kept.each r v k hv hk).depth b.0 b.1 b.2.roster b.2.is b.2.text

  -- what is rebuilt at a position are the entries that are kept there, and the tree with the marks of the whole history
  pub rebuilt_is : (r : ℕ) (v : Revision) (k : Kept) (es : Entries) (t : MarkedTree) (depth : ℕ) → slice_get h r ≡ Some v → slice_get ks r ≡ Some k → IsRebuilt c r es t depth →
      (es ≡ k.entries) × IsMarkedAt h r t × (depth ≡ k.depth)
  rebuilt_is r v k es t depth hv hk is =
      let x = chained k.depth r v k hv hk refl in
      let one = one_chain c r is.chain x.chain is.down x.down in
      let same : es ≡ k.entries = let t = sym is.entries ∙ ap rebuilt (ap reverse one) ∙ x.made in cc in
      let known = kept.each r v k hv hk in
      let tree = one_tree k.entries t (record { tree = v.tree; marks = known.marks }) (subst (λ fs. Spells fs t) same is.spelled) known.numbered.spells in
      (same, subst (IsMarkedAt h r) (sym tree) known.marked, let long = ap length one ∙ x.long in omega (arith, is.deltas, long))

  never_unrostered : (r : ℕ) (d : Damage) → r < length h → UnrosteredAt c r d → ⊥
  never_unrostered r (Bad table key body) lt wrong =
      let v = within h r lt in
      let k = within ks r (subst (λ n. r < n) (sym kept.long) lt) in
      let b = rosters.each r v.0 k.0 v.1 k.1 in
      let same : body ≡ b.0 = one_body (body_at c 5 key) body b.0 wrong.2 (ap (body_at c 5) wrong.1 ∙ b.1) in
      wrong.3 b.2.roster (subst (λ x. IsRosterAt r x b.2.roster) (sym same) b.2.text)
  never_unrostered r (Missing table key) lt wrong =
      let v = within h r lt in
      let k = within ks r (subst (λ n. r < n) (sym kept.long) lt) in
      let b = rosters.each r v.0 k.0 v.1 k.1 in
      absurd (let both : None ≡ Some b.0 = sym wrong.2 ∙ ap (body_at c 5) wrong.1 ∙ b.1 in cc)

  never_unrebuilt : (r : ℕ) (d : Damage) → r < length h → UnrebuiltAt c r d → ⊥
  never_unrebuilt r d lt wrong =
      let v = within h r lt in
      let k = within ks r (subst (λ n. r < n) (sym kept.long) lt) in
      let x = chained k.0.depth r v.0 k.0 v.1 k.1 refl in
      let known = kept.each r v.0 k.0 v.1 k.1 in
      wrong.1 x.chain k.0.entries (record { tree = v.0.tree; marks = known.marks }) x.down x.made known.numbered.spells

  pub never_unmade : (n : ℕ) (d : Damage) → n ≡ length h → UnmadeBelow n c d → ⊥
  never_unmade n d is wrong =
      let lt : wrong.place < length h = subst (λ m. wrong.place < m) is wrong.below in
      ⊎_elim (never_unrostered wrong.place d lt) (never_unrebuilt wrong.place d lt) wrong.wrong

pub shown_roster : (c : Contents) (r : ℕ) (d : Damage) → UnrosteredAt c r d ⊎ UnrebuiltAt c r d → IsShown c d
shown_roster c r (Bad table key body) (inl w) = ap (λ t. body_at c t key) w.0 ∙ w.2
shown_roster c r (Bad table key body) (inr w) = ap (λ t. body_at c t key) w.0.0 ∙ w.0.2
shown_roster c r (Missing table key) (inl w) = ap (λ t. body_at c t key) w.0 ∙ w.2
shown_roster c r (Missing table key) (inr w) = ap (λ t. body_at c t key) w.0.0 ∙ w.0.2
