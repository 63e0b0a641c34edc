-- Places along chains, and what two chains give that come to one position.
use Rattle.std.specs.Prelude.{IfSome, OnOk, max, slice_get}
use Rattle.std.proofs.Common.{◌≡◌, ◌≢◌, ◌≤◌, ◌<◌, ◌+◌, ℕ, zero, suc, List, [], ◌∷◌, length, get_or, drop, Option, Some, None, Result, Ok, Err, refl, sym, ap, ◌∙◌, subst, arith, add-one}
use Rattle.std.proofs.Math.Seq.{drop-cons}
use Rattle.mtn_model.specs.Table.{Contents}
use Rattle.mtn_ports.specs.Kept.{Same, with_all}
use Rattle.mtn_ports.specs.declared.batch.Put.{Put}
use Rattle.mtn_records.specs.declared.record.RosterRecord.{RosterRecord}
use Rattle.mtn_records.specs.declared.record.RosterRecord.TheVariants.{Whole, Delta}
use Rattle.mtn_records.specs.declared.error.RecordError.TheVariants as record_error
use Rattle.mtn_history.specs.Errors.{IfDamage}
use Rattle.mtn_history.specs.Rosters.{AreDeltasOn, AreEntriesAt, AsksAlong, AsksOnce, EndsAt, IsPathDown, IsRosterHeld, IsWalk, UnmadeBelow, IsUnmade, base_of, meeting_of, places}
use Rattle.mtn_history.specs.declared.chains.Base.{Base}
use Rattle.mtn_history.specs.declared.chains.End.{End}
use Rattle.mtn_history.specs.declared.chains.End.TheVariants.{ToWhole, ToBase, ToMeeting}
use Rattle.mtn_history.specs.declared.chains.Unmade.{Unmade}
use Rattle.mtn_history.specs.declared.errors.StoreError.{StoreError}
use Rattle.mtn_history.specs.declared.errors.StoreError.TheVariants.{Failed, Damaged, NoMemory}
use Rattle.mtn_history.proofs.Knowing.{told_back}
use Rattle.mtn_history.proofs.LogLemmas.{told_on}
use Rattle.mtn_history.proofs.RosterLemmas.{asks_once, asks_alone, asks_alone_right, unrebuilt_below}

first_of : (ys : List ℕ) (i n : ℕ) (rest : List ℕ) → drop i ys ≡ n ∷ rest → slice_get ys i ≡ Some n
first_of [] zero n rest e = absurd cc
first_of [] (suc i) n rest e = absurd cc
first_of (y ∷ ys) zero n rest e = let same : y ≡ n = cc in ap Some same
first_of (y ∷ ys) (suc i) n rest e = first_of ys i n rest e

behind_first : (ys : List ℕ) (i n : ℕ) (rest : List ℕ) → drop i ys ≡ n ∷ rest → drop (suc i) ys ≡ rest
behind_first [] zero n rest e = absurd cc
behind_first [] (suc i) n rest e = absurd cc
behind_first (y ∷ ys) zero n rest e = let same : ys ≡ rest = cc in same
behind_first (y ∷ ys) (suc i) n rest e = behind_first ys i n rest e

all_before : (ys : List ℕ) (i k a : ℕ) → drop i ys ≡ [] → slice_get ys k ≡ Some a → k < i
all_before [] i k a e at = absurd cc
all_before (y ∷ ys) zero k a e at = absurd cc
all_before (y ∷ ys) (suc i) zero a e at = omega arith
all_before (y ∷ ys) (suc i) (suc k) a e at = let less = all_before ys i k a e at in omega (arith, less)

places_delta : (next b : ℕ) (x : RosterRecord) (rest : List RosterRecord) → base_of x ≡ Some b → places next (x ∷ rest) ≡ next ∷ places b rest
places_delta next b (Whole es) rest is = absurd cc
places_delta next b (Delta base d g ch) rest is = let same : base ≡ b = cc in ap (λ k. next ∷ places k rest) same

places_whole : (next : ℕ) (x : RosterRecord) (rest : List RosterRecord) → base_of x ≡ None → places next (x ∷ rest) ≡ next ∷ []
places_whole next (Whole es) rest is = refl
places_whole next (Delta base d g ch) rest is = absurd cc

places_from : (next : ℕ) (x : RosterRecord) (rest : List RosterRecord) → (more : List ℕ) × (places next (x ∷ rest) ≡ next ∷ more)
places_from next (Whole es) rest = ([], refl)
places_from next (Delta base d g ch) rest = (places base rest, refl)

-- where a walk along records stands
module _ (r next i : ℕ) (xs : List RosterRecord) (x : RosterRecord) (lt : i < length xs) (is : x ≡ get_or xs i x) (along : drop i (places r xs) ≡ places next (drop i xs)) where
  here : drop i (places r xs) ≡ places next (x ∷ drop (suc i) xs)
  here = along ∙ ap (places next) (drop-cons xs i x lt ∙ ap (λ y. y ∷ drop (suc i) xs) (sym is))

  pub place_here : slice_get (places r xs) i ≡ Some next
  place_here = let from = places_from next x (drop (suc i) xs) in first_of (places r xs) i next from.0 (here ∙ from.1)

  pub place_next : (b : ℕ) → base_of x ≡ Some b → drop (i + 1) (places r xs) ≡ places b (drop (i + 1) xs)
  place_next b down = rw add-one (behind_first (places r xs) i next (places b (drop (suc i) xs)) (here ∙ places_delta next b x (drop (suc i) xs) down))

  pub place_last : base_of x ≡ None → (k a : ℕ) → slice_get (places r xs) k ≡ Some a → k < i + 1
  place_last whole k a at = let less = all_before (places r xs) (suc i) k a (behind_first (places r xs) i next [] (here ∙ places_whole next x (drop (suc i) xs) whole)) at in omega (arith, less)

-- none before a place, and not that one
pub none_more : (ys : List ℕ) (i next at k : ℕ) → slice_get ys i ≡ Some next → next ≢ at → ((q : ℕ) → q < i → slice_get ys q ≡ Some at → ⊥) → k < i + 1 → slice_get ys k ≡ Some at → ⊥
none_more ys i next at k here other none lt is = none k (omega (arith, lt, apart)) is
  where
    apart : k ≢ i
    apart e = other (let there : slice_get ys i ≡ Some at = subst (λ q. slice_get ys q ≡ Some at) e is in cc)

pub none_behind : (r next i k a : ℕ) (xs : List RosterRecord) → drop i xs ≡ [] → drop i (places r xs) ≡ places next (drop i xs) → slice_get (places r xs) k ≡ Some a → k < i
none_behind r next i k a xs end along at = all_before (places r xs) i k a (along ∙ ap (places next) end) at

-- a position that gives no tree is shown
pub shown_unmade : (told : Option Contents) (ps : List Put) (left right : ℕ) (u : Unmade) (e : StoreError) → u.error ≡ record_error.Bad → IfSome told (λ c. IfDamage e (IsRosterHeld (with_all c ps) u.at)) →
    IfSome told (λ c. IsUnmade (with_all c ps) left right u → IfDamage e (UnmadeBelow (max left right + 1) (with_all c ps)))
shown_unmade None ps left right u e bad held = tt
shown_unmade (Some c) ps left right u e bad held = λ unmade. let is = unmade bad in unrebuilt_below (with_all c ps) u.at (max left right + 1) e (omega (arith, is.0)) is.1 held

-- what two chains give
pub met_at : (c : Contents) (r top at : ℕ) (beside xs : List RosterRecord) (end : End) → EndsAt c r top beside xs end → Some at ≡ meeting_of end → IsPathDown c r xs at × ((i : ℕ) × (slice_get (places top beside) i ≡ Some at))
met_at c r top at beside xs ToWhole ends is = absurd cc
met_at c r top at beside xs (ToBase known) ends is = absurd cc
met_at c r top at beside xs (ToMeeting q) ends is = let same : q ≡ at = cc in subst (λ k. IsPathDown c r xs k × ((i : ℕ) × (slice_get (places top beside) i ≡ Some k))) same ends

pub unmet : (c : Contents) (r top : ℕ) (beside xs : List RosterRecord) (end : End) → EndsAt c r top beside xs end → None ≡ meeting_of end → EndsAt c r r [] xs end
unmet c r top beside xs ToWhole ends is = ends
unmet c r top beside xs (ToBase known) ends is = ends
unmet c r top beside xs (ToMeeting q) ends is = absurd cc

pub deltas_on : (c : Contents) (r at : ℕ) (deltas : List RosterRecord) (base known : Base) → known ≡ base → IsPathDown c r deltas at → AreEntriesAt c at base.entries base.depth → AreDeltasOn c r deltas known
deltas_on c r at deltas base known same path right = record { base = at; path = path; right = subst (λ (b : Base). AreEntriesAt c at b.entries b.depth) (sym same) right }

pub unmade_left : (c : Contents) (left right : ℕ) (u : Unmade) → IsUnmade c left left u → IsUnmade c left right u
unmade_left c left right u un bad = let is = un bad in (omega (arith, is.0), is.1)

pub unmade_right : (c : Contents) (left right : ℕ) (u : Unmade) → IsUnmade c right right u → IsUnmade c left right u
unmade_right c left right u un bad = let is = un bad in (omega (arith, is.0), is.1)

-- facts of told records
pub told_then : (told : Option Contents) (A B P : Contents → Type 0) → IfSome told A → IfSome told B → ((c : Contents) → A c → B c → P c) → IfSome told P
told_then None A B P a b each = tt
told_then (Some c) A B P a b each = each c a b

pub told_both : (old new : Option Contents) (P Q : Contents → Type 0) → Same old new → IfSome old P → IfSome new (λ c. P c → Q c) → IfSome new Q
told_both old None P Q same p each = tt
told_both old (Some c) P Q same p each = each (subst (λ o. IfSome o P) (same c refl) p)

within_damage : (c : Contents) (m n : ℕ) (e : StoreError) → m ≤ n → IfDamage e (UnmadeBelow m c) → IfDamage e (UnmadeBelow n c)
within_damage c m n Failed le un = tt
within_damage c m n NoMemory le un = tt
within_damage c m n (Damaged d) le un = record { place = un.place; below = omega (arith, le, un.below); wrong = un.wrong }

pub unmade_within : (told : Option Contents) (ps : List Put) (m n : ℕ) (e : StoreError) → m ≤ n → IfSome told (λ c. IfDamage e (UnmadeBelow m (with_all c ps))) → IfSome told (λ c. IfDamage e (UnmadeBelow n (with_all c ps)))
unmade_within None ps m n e le un = tt
unmade_within (Some c) ps m n e le un = within_damage (with_all c ps) m n e le un

-- how many records two walks asked for, and then none
pub once_told : {X : Type 0} (first second told : Option Contents) (ps : List Put) (left right before between behind after : ℕ) (xs ys : List RosterRecord) (one other : End) (r : Result X StoreError) →
    Same first second → Same second told → IfSome first (λ c. IsWalk (with_all c ps) left left [] xs one) → IfSome second (λ c. IsWalk (with_all c ps) right left xs ys other) →
    between ≤ before + length xs → behind ≤ between + length ys → OnOk r (after ≤ behind) → IfSome told (λ c. OnOk r (AsksOnce (with_all c ps) left right before after))
once_told first second None ps left right before between behind after xs ys one other r s t ours theirs x y z = tt
once_told first second (Some c) ps left right before between behind after xs ys one other (Err e) s t ours theirs x y z = tt
once_told first second (Some c) ps left right before between behind after xs ys one other (Ok v) s t ours theirs x y z =
    let walk = told_on second (Some c) (λ d. IsWalk (with_all d ps) right left xs ys other) t theirs c refl in
    let own = told_on second (Some c) (λ d. IsWalk (with_all d ps) left left [] xs one) t (told_back first second (λ d. IsWalk (with_all d ps) left left [] xs one) s ours) c refl in
    asks_once (with_all c ps) left right before after xs ys one other own.ends walk (omega (arith, x, y, z))

pub once_left : (told : Option Contents) (ps : List Put) (left right before after : ℕ) → IfSome told (λ c. AsksAlong (with_all c ps) left before after) → IfSome told (λ c. AsksOnce (with_all c ps) left right before after)
once_left None ps left right before after along = tt
once_left (Some c) ps left right before after along = asks_alone (with_all c ps) left right before after along

-- as much more was asked for before
pub once_later : (told : Option Contents) (batch : List Put) (left right before later after : ℕ) → before ≤ later → IfSome told (λ c. AsksOnce (with_all c batch) left right before after) →
    IfSome told (λ c. AsksOnce (with_all c batch) left right later after)
once_later None batch left right before later after le once = tt
once_later (Some c) batch left right before later after le once = λ a b shared at down also rest. let few = once a b shared at down also rest in omega (arith, few, le)

pub once_right : (told : Option Contents) (ps : List Put) (left right before after : ℕ) → IfSome told (λ c. AsksAlong (with_all c ps) right before after) → IfSome told (λ c. AsksOnce (with_all c ps) left right before after)
once_right None ps left right before after along = tt
once_right (Some c) ps left right before after along = asks_alone_right (with_all c ps) left right before after along
