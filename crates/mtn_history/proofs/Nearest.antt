-- Keys of one length that stand next to each other.
use Rattle.std.specs.Prelude.{slice_index_or, slice_set, IfOk, IfSome, IsTrue, Result, Ok, Err, bytes_eq, ◌&&◌}
use Rattle.std.specs.FinMap.{get, slice_cmp-IsAntisymmetric, nat_cmp-IsAntisymmetric}
use Rattle.std.proofs.Common.{◌≡◌, ◌<◌, ◌+◌, ◌-◌, ◌⊎◌, ⊎_elim, inl, inr, ℕ, zero, suc, Bool, true, false, List, [], ◌∷◌, Option, Some, None, length, take, refl, sym, ap, ◌∙◌, subst, arith}
use Rattle.std.proofs.lemmas.Cmp.{nat_list_cmp_total}
use Rattle.std.proofs.lemmas.Slice.Eq.{bytes_eq-Decides}
use Rattle.std.specs.Cmp.{nat_cmp_is, ranks}
use Rattle.std.specs.Cmp.Lexicographic.{slice_cmp}
use Rattle.std.specs.Ordering.{nat_cmp, ordering_reverse, ordering_then, MatchOrdering}
use Rattle.std.specs.declared.cmp.Ordering.{Ordering}
use Rattle.std.specs.declared.cmp.Ordering.TheVariants.{Less, Equal, Greater}
use Rattle.mtn_model.specs.State.{State}
use Rattle.mtn_model.specs.Table.{Contents, body_at}
use Rattle.mtn_ports.specs.Kept.{IsAbove, IsAboveIf, IsBody, IsNextKey, Same, over, with_all}
use Rattle.mtn_ports.proofs.KeptLemmas.{body_at-over, newest}
use Rattle.mtn_history.specs.Asking.{HasTwenty, IsJustBelow}
use Rattle.mtn_ports.specs.Ident.{MakesIds}
use Rattle.mtn_history.specs.Stands.{IsFounded}
use Rattle.mtn_history.specs.declared.errors.StoreError.{StoreError}
use Rattle.mtn_history.specs.declared.pending.Pending.{Pending}
use Rattle.mtn_history.proofs.FileLemmas.{behind_meta}
use Rattle.mtn_history.proofs.Founding.{files_of, told_of}

-- the first bytes decide, or are the same
first : (x o : ℕ) (rest : Ordering) → ordering_then (nat_cmp x o) rest ≡ Less → (x < o) ⊎ ((x ≡ o) × (rest ≡ Less))
first x o rest less = by (nat_cmp x o) (ranks x o) less
  where
    by : (r : Ordering) → MatchOrdering r (x < o) (x ≡ o) (o < x) → ordering_then r rest ≡ Less → (x < o) ⊎ ((x ≡ o) × (rest ≡ Less))
    by Less is e = inl is
    by Equal is e = inr (is, e)
    by Greater is e = absurd cc

at_first : (x o : ℕ) (rest : Ordering) → x < o → ordering_then (nat_cmp x o) rest ≡ Less
at_first x o rest lt = ap (λ r. ordering_then r rest) (sym (nat_cmp_is x o Less lt))

same_first : (x : ℕ) (rest : Ordering) → rest ≡ Less → ordering_then (nat_cmp x x) rest ≡ Less
same_first x rest less = ap (λ r. ordering_then r rest) (sym (nat_cmp_is x x Equal refl)) ∙ less

none_below : (os : List ℕ) → slice_cmp nat_cmp os [] ≡ Less → ⊥
none_below [] e = absurd cc
none_below (o ∷ os) e = absurd cc

-- the same behind a first byte, where both stand on one side
behind : (x o : ℕ) (l r : Ordering) (P : Type 0) → ordering_then (nat_cmp x o) l ≡ Less → ordering_then (nat_cmp o x) r ≡ Less → (l ≡ Less → r ≡ Less → P) → P
behind x o l r P below above go =
    ⊎_elim (λ lt. ⊎_elim (λ gt. absurd (omega (arith, lt, gt))) (λ same. absurd (omega (arith, lt, same.0))) (first o x r above))
    (λ same. ⊎_elim (λ gt. absurd (omega (arith, same.0, gt))) (λ back. go same.1 back.1) (first o x r above)) (first x o l below)

-- a key that ends in a byte 0, without that byte
pub cut_next : (k : ℕ) (key other : List ℕ) → length key ≡ k + 1 → slice_index_or key k 0 ≡ 0 → slice_cmp nat_cmp (take k key) other ≡ Less → slice_cmp nat_cmp other key ≡ Less → ⊥
cut_next k [] other long is below above = omega (arith, long)
cut_next zero (b ∷ y ∷ ys) other long is below above = omega (arith, long)
cut_next zero (b ∷ []) [] long is below above = absurd cc
cut_next zero (b ∷ []) (o ∷ os) long is below above =
    ⊎_elim (λ lt. omega (arith, lt, is)) (λ same. none_below os same.1) (first o b (slice_cmp nat_cmp os []) above)
cut_next (suc k) (x ∷ xs) [] long is below above = absurd cc
cut_next (suc k) (x ∷ xs) (o ∷ os) long is below above =
    behind x o (slice_cmp nat_cmp (take k xs) os) (slice_cmp nat_cmp os xs) ⊥ below above (λ l r. cut_next k xs os (omega (arith, long)) is l r)

pub cut_below : (k : ℕ) (key : List ℕ) → length key ≡ k + 1 → slice_cmp nat_cmp (take k key) key ≡ Less
cut_below k [] long = absurd (omega (arith, long))
cut_below zero (b ∷ ys) long = refl
cut_below (suc k) (x ∷ xs) long = same_first x (slice_cmp nat_cmp (take k xs) xs) (cut_below k xs (omega (arith, long)))

-- a key with its last byte one less
pub less_next : (k : ℕ) (key other : List ℕ) → length key ≡ k + 1 → length other ≡ k + 1 → 0 < slice_index_or key k 0 →
    slice_cmp nat_cmp (take (suc k) (slice_set key k (slice_index_or key k 0 - 1))) other ≡ Less → slice_cmp nat_cmp other key ≡ Less → ⊥
less_next k [] other long as_long some below above = omega (arith, long)
less_next k (x ∷ xs) [] long as_long some below above = omega (arith, as_long)
less_next zero (b ∷ y ∷ ys) other long as_long some below above = omega (arith, long)
less_next zero (b ∷ []) (o ∷ p ∷ os) long as_long some below above = omega (arith, as_long)
less_next zero (b ∷ []) (o ∷ []) long as_long some below above =
    ⊎_elim (λ lt. ⊎_elim (λ gt. omega (arith, lt, gt, some)) (λ same. none_below [] same.1) (first o b (slice_cmp nat_cmp [] []) above))
    (λ same. none_below [] same.1) (first (b - 1) o (slice_cmp nat_cmp [] []) below)
less_next (suc k) (x ∷ xs) (o ∷ os) long as_long some below above =
    behind x o (slice_cmp nat_cmp (take (suc k) (slice_set xs k (slice_index_or xs k 0 - 1))) os) (slice_cmp nat_cmp os xs) ⊥ below above
    (λ l r. less_next k xs os (omega (arith, long)) (omega (arith, as_long)) some l r)

pub less_below : (k : ℕ) (key : List ℕ) → length key ≡ k + 1 → 0 < slice_index_or key k 0 → slice_cmp nat_cmp (take (suc k) (slice_set key k (slice_index_or key k 0 - 1))) key ≡ Less
less_below k [] long some = absurd (omega (arith, long))
less_below zero (b ∷ ys) long some = at_first (b - 1) b (slice_cmp nat_cmp (take zero ys) ys) (omega (arith, some))
less_below (suc k) (x ∷ xs) long some =
    same_first x (slice_cmp nat_cmp (take (suc k) (slice_set xs k (slice_index_or xs k 0 - 1))) xs) (less_below k xs (omega (arith, long)) some)

-- where no key of twenty bytes stands between, a key that does not follow is not there
pub never_there : (told : Option Contents) (table : ℕ) (after key next : List ℕ) (found : Bool) → IsAbove after key → IsJustBelow after key → IfSome told (λ c. IsNextKey c table after found next) → IsAboveIf after found next →
    (found && bytes_eq next key) ≡ false → IfSome told (λ c. HasTwenty c table → body_at c table key ≡ None)
never_there None table after key next found above just steps over missed = tt
never_there (Some c) table after key next false above just steps over missed = λ twenty. steps key above
never_there (Some c) table after key next true above just steps over missed = λ twenty. by (slice_cmp nat_cmp key next) refl twenty
  where
    by : (r : Ordering) → slice_cmp nat_cmp key next ≡ r → HasTwenty c table → body_at c table key ≡ None
    by Less is twenty = steps.1 key above is
    by Equal is twenty = absurd (let both : true ≡ false = sym ((bytes_eq-Decides next key).1 (sym (slice_cmp-IsAntisymmetric nat_cmp-IsAntisymmetric key next is))) ∙ missed in cc)
    by Greater is twenty =
        absurd (just next (twenty next steps.0.0 steps.0.1) over (nat_list_cmp_total.antisymm next key ∙ ap ordering_reverse is))

over_some : (x : Option (List ℕ)) (b : List ℕ) → (y : List ℕ) × (over x (Some b) ≡ Some y)
over_some (Some y) b = (y, refl)
over_some None b = (b, refl)

-- the files of a keeper's records stand under ids
pub files_twenty : (f : List ℕ → List ℕ) (told : Option Contents) (p : Pending) (s : State) → (d : IsFounded f told p s) → MakesIds f → HasTwenty d.records 2
files_twenty f told p s d ids key body at =
    let o = over_some (newest 2 key None p.batch) body in
    let own_at = body_at-over d.records p.batch 2 key ∙ ap (over (newest 2 key None p.batch)) at ∙ o.1 in
    let held : get s.files key ≡ Some o.0 = sym (ap (λ t. get t key) (files_of f told p s d)) ∙ own_at in
    let lawful = (behind_meta p.is_new f (with_all d.records p.batch) p.count s d.draft.count d.draft.stands).lawful in
    subst (λ k. length k ≡ 20) (lawful.files.ids key o.0 held) (ids o.0).twenty

abbrev answer : Bool → Result Bool StoreError
answer b = Ok b

-- the same by whether it follows
pub never_missed : (told : Option Contents) (table : ℕ) (after key next : List ℕ) (found r : Bool) → IsAbove after key → IsJustBelow after key → IfSome told (λ c. IsNextKey c table after found next) → IsAboveIf after found next →
    found ≡ true → r ≡ bytes_eq next key → IfSome told (λ c. HasTwenty c table → answer r ≡ answer false → body_at c table key ≡ None)
never_missed told table after key next found true above just steps over is same = by told
  where
    by : (o : Option Contents) → IfSome o (λ c. HasTwenty c table → answer true ≡ answer false → body_at c table key ≡ None)
    by None = tt
    by (Some c) = λ twenty e. absurd cc
never_missed told table after key next found false above just steps over is same = by told (never_there told table after key next found above just steps over (ap (λ b. b && bytes_eq next key) is ∙ sym same))
  where
    by : (o : Option Contents) → IfSome o (λ c. HasTwenty c table → body_at c table key ≡ None) → IfSome o (λ c. HasTwenty c table → answer false ≡ answer false → body_at c table key ≡ None)
    by None none = tt
    by (Some c) none = λ twenty e. none twenty

never_true : (r : Result Bool StoreError) (body : Option (List ℕ)) (out : List ℕ) (P : Type 0) → IfOk r (λ found. IsBody body found out) → body ≡ None → IfOk r (λ held. IsTrue held → P)
never_true (Ok true) body out P is none = λ t. absurd (let both : Some out ≡ None = sym is ∙ none in cc)
never_true (Ok false) body out P is none = λ t. absurd cc
never_true (Err e) body out P is none = tt

-- a file that is neither pending nor follows is not there
pub never_late : (f : List ℕ → List ℕ) (mid last : Option Contents) (p q : Pending) (s : State) → (d : IsFounded f last p s) → MakesIds f → Same mid last → q ≡ p → (key out : List ℕ) (x : Bool) (r : Result Bool StoreError) (P : Type 0) →
    IfSome mid (λ c. HasTwenty c 2 → answer x ≡ answer false → body_at c 2 key ≡ None) → x ≡ false → ((c : Contents) → body_at (with_all c p.batch) 2 key ≡ body_at c 2 key) →
    IfSome last (λ c. IfOk r (λ found. IsBody (body_at (with_all c q.batch) 2 key) found out)) → IfOk r (λ held. IsTrue held → P)
never_late f mid last p q s d ids same is key out x r P missed off unput gets =
    let none = told_of mid d.records (λ c. HasTwenty c 2 → answer x ≡ answer false → body_at c 2 key ≡ None) (same d.records d.tells) missed (files_twenty f last p s d ids) (ap answer off) in
    let got = told_of last d.records (λ c. IfOk r (λ found. IsBody (body_at (with_all c q.batch) 2 key) found out)) d.tells gets in
    never_true r (body_at (with_all d.records q.batch) 2 key) out P got (ap (λ (o : Pending). body_at (with_all d.records o.batch) 2 key) is ∙ unput d.records ∙ none)
