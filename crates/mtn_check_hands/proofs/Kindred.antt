-- Parents, by what is at hand.
use Rattle.std.specs.Prelude.{IfSome, slice_get}
use Rattle.std.specs.List.{AllZip}
use Rattle.std.proofs.Common.{◌≡◌, ◌<◌, ◌+◌, ℕ, zero, suc, List, [], ◌∷◌, length, Option, Some, None, refl, sym, ap, ◌∙◌, subst, arith}
use Rattle.mtn_check_laws.specs.FirstDamage.{IsBegun}
use Rattle.mtn_check_laws.specs.Fronts.{Front, IsFrontAt}
use Rattle.mtn_check_laws.proofs.Standing.{front_stands}
use Rattle.mtn_check_laws.proofs.Walks.{one_logged}
use Rattle.mtn_check_records.specs.Reading.{places_of, IsHandOf, IsParentIn}
use Rattle.mtn_check_records.specs.declared.hand.Hand.{Hand}
use Rattle.mtn_check_records.specs.declared.hand.Parent.{Parent}
use Rattle.mtn_history.specs.Logs.{IsLogged}
use Rattle.mtn_history.specs.Revisions.{IsLogBody, Kept, next_from}
use Rattle.mtn_history_laws.specs.History.{Revision}
use Rattle.mtn_make_roster.specs.declared.basis.Uncommon.{Uncommon}
use Rattle.mtn_model.specs.Table.{Contents, body_at}
use Rattle.mtn_ports.proofs.KeptLemmas.{if_same}
use Rattle.mtn_ports.specs.Kept.{Same}
use Rattle.mtn_records.specs.Fields.{number_text}
use Rattle.mtn_records.specs.declared.record.LogRecord.{LogRecord}
use Rattle.mtn_records.specs.declared.record.RosterRecord.TheVariants.{Whole}
use Rattle.mtn_replay.proofs.Places.{within}
use Rattle.mtn_check_hands.specs.Hands.{Has}
use Rattle.mtn_check_hands.specs.Reading.{AreApart, AreKinAt, IsAnswerBelow, IsHandAt, IsNextAt}
use Rattle.mtn_check_hands.specs.declared.asked.Answer.TheVariants.{Held}
use Rattle.mtn_check_hands.specs.declared.asked.Asked.TheVariants.{Kept as KeptOf}
use Rattle.mtn_check_hands.specs.declared.hands.Hands.{Hands}
use Rattle.mtn_check_hands.specs.declared.kin.Kin.{Kin}
use Rattle.mtn_history.proofs.Knowing.{told_each}

pub told_to : (told : Option Contents) (P Q : Contents → Type 0) → ((c : Contents) → P c → Q c) → IfSome told P → IfSome told Q
told_to None P Q f p = tt
told_to (Some c) P Q f p = f c p

-- what is at hand
pub hand_here : (told : Option Contents) (at place : ℕ) (hands : Hands) (hand copy : Hand) → place < at → Has hands place hand → copy ≡ hand → IfSome told (λ c. IsHandAt c at hands place copy)
hand_here told at place hands hand copy lt has same = told_each told _ (λ c f n front begun walked right. subst (IsHandOf front place) (sym same) (right place hand lt has))

-- what is asked for
pub hand_asked : (told : Option Contents) (at place : ℕ) (hands : Hands) (hand : Hand) → IfSome told (λ c. IsAnswerBelow c at (KeptOf place) (Held hand)) → IfSome told (λ c. IsHandAt c at hands place hand)
hand_asked told at place hands hand = told_to told _ _ (λ c is f n front begun walked right. is f n front begun walked)

last_next : (n r : ℕ) (ks : List Kept) (k : Kept) → slice_get ks r ≡ Some k → r + 1 ≡ length ks → next_from n ks ≡ k.next
last_next n r [] k at long = absurd (omega (arith, long))
last_next n zero (x ∷ []) k at long = let same : x ≡ k = cc in ap (λ (y : Kept). y.next) same
last_next n zero (x ∷ y ∷ ks) k at long = absurd (omega (arith, long))
last_next n (suc r) (x ∷ ks) k at long = last_next x.next r ks k at (omega (arith, long))

-- the next number behind the last revision
pub next_by_hand : (told : Option Contents) (at r : ℕ) (hands : Hands) (hand : Hand) → r + 1 ≡ at → Has hands r hand → IfSome told (λ c. IsNextAt c at hands hand.next)
next_by_hand told at r hands hand last has = told_each told _ (λ c f n front begun walked right.
    let stands = front_stands f c at front walked in
    let is : IsHandOf front r hand = right r hand (omega (arith, last)) has in
    sym (last_next 1 r front.kept _ is.kept (omega (arith, last, stands.long, stands.spelled.long, stands.revisions.long))))

-- the record of the log of a revision that is kept
told_next : (c : Contents) (r : ℕ) (entry : LogRecord) (v : Revision) (k : Kept) (body : List ℕ) → IsLogged c r entry → body_at c 4 (number_text r) ≡ Some body → IsLogBody r v k body → entry.next_node ≡ k.next
told_next c r entry v k body logged held is =
    let kept : LogRecord = record { id = v.id; next_node = k.next; parents = is.parents } in
    let same : entry ≡ kept = one_logged c r entry kept logged (record { body = body; held = held; text = is.text }) in
    ap (λ (e : LogRecord). e.next_node) {x = entry} {y = kept} same

pub next_by_log : (told : Option Contents) (at r : ℕ) (hands : Hands) (entry : LogRecord) → r + 1 ≡ at → IfSome told (λ c. IsLogged c r entry) → IfSome told (λ c. IsNextAt c at hands entry.next_node)
next_by_log told at r hands entry last = told_to told _ _ (λ c logged f n front begun walked right.
    let stands = front_stands f c at front walked in
    let v = within front.history r (omega (arith, last, stands.long, stands.spelled.long)) in
    let k = within front.kept r (omega (arith, last, stands.long, stands.spelled.long, stands.revisions.long)) in
    let b = stands.log r v.0 k.0 v.1 k.1 in
    told_next c r entry v.0 k.0 b.0 logged b.1 b.2 ∙ sym (last_next 1 r front.kept k.0 k.1 (omega (arith, last, stands.long, stands.spelled.long, stands.revisions.long))))

-- no parent, one and two
abbrev pub parent_in : ℕ → Hand → Parent
parent_in place hand = record { at = place; id = hand.id; depth = hand.depth }

pub none_are : (told : Option Contents) (at : ℕ) (hands : Hands) (kin : Kin) → kin.parents ≡ [] → kin.records ≡ [] → IfSome told (λ c. AreKinAt c at hands kin)
none_are told at hands kin parents records = told_each told _ (λ c f n front begun walked right. (
  subst (λ ps. AllZip (IsParentIn front) ps kin.records) (sym parents) (subst (AllZip (IsParentIn front) []) (sym records) tt),
  subst (λ ps. AreApart front.history (places_of ps) kin.only_left kin.only_right) (sym parents) tt,
))

pub one_is : (told : Option Contents) (at place : ℕ) (hands : Hands) (hand : Hand) (kin : Kin) → kin.parents ≡ parent_in place hand ∷ [] → kin.records ≡ Whole hand.entries ∷ [] → IfSome told (λ c. IsHandAt c at hands place hand) →
    IfSome told (λ c. AreKinAt c at hands kin)
one_is told at place hands hand kin parents records = told_to told _ _ (λ c is f n front begun walked right. (
  subst (λ ps. AllZip (IsParentIn front) ps kin.records) (sym parents) (subst (AllZip (IsParentIn front) (parent_in place hand ∷ [])) (sym records)
      (record { hand = hand; is = is f n front begun walked right; id = refl; depth = refl; whole = refl }, tt)),
  subst (λ ps. AreApart front.history (places_of ps) kin.only_left kin.only_right) (sym parents) tt,
))

-- so are two revisions apart
abbrev pub ApartAt : Contents → ℕ → ℕ → ℕ → Uncommon → Uncommon → Type 0
ApartAt c at left right lefts rights = (f : List ℕ → List ℕ) (n : ℕ) (front : Front) → IsBegun f c n → IsFrontAt f c at front → AreApart front.history (left ∷ right ∷ []) lefts rights

two_are : (c : Contents) (at left right : ℕ) (hands : Hands) (first second : Hand) (lefts rights : Uncommon) (kin : Kin) → kin.parents ≡ parent_in left first ∷ parent_in right second ∷ [] → kin.records ≡ Whole first.entries ∷ Whole second.entries ∷ [] →
    kin.only_left ≡ lefts → kin.only_right ≡ rights → IsHandAt c at hands left first → IsHandAt c at hands right second → ApartAt c at left right lefts rights → AreKinAt c at hands kin
two_are c at left right hands first second lefts rights kin parents records is_left is_right one other apart = λ f n front begun walked is. (
  subst (λ ps. AllZip (IsParentIn front) ps kin.records) (sym parents) (subst (AllZip (IsParentIn front) (parent_in left first ∷ parent_in right second ∷ [])) (sym records)
      (record { hand = first; is = one f n front begun walked is; id = refl; depth = refl; whole = refl }, (record { hand = second; is = other f n front begun walked is; id = refl; depth = refl; whole = refl }, tt))),
  subst (λ ps. AreApart front.history (places_of ps) kin.only_left kin.only_right) (sym parents)
      (subst (λ (u : Uncommon). AreApart front.history (left ∷ right ∷ []) u kin.only_right) (sym is_left) (subst (AreApart front.history (left ∷ right ∷ []) lefts) (sym is_right) (apart f n front begun walked))),
)

pub both_are : (first_told second_told told : Option Contents) (at left right : ℕ) (hands : Hands) (first second : Hand) (lefts rights : Uncommon) (kin : Kin) → Same first_told second_told → Same second_told told →
    kin.parents ≡ parent_in left first ∷ parent_in right second ∷ [] → kin.records ≡ Whole first.entries ∷ Whole second.entries ∷ [] → kin.only_left ≡ lefts → kin.only_right ≡ rights →
    IfSome first_told (λ c. IsHandAt c at hands left first) → IfSome second_told (λ c. IsHandAt c at hands right second) → IfSome told (λ c. ApartAt c at left right lefts rights) → IfSome told (λ c. AreKinAt c at hands kin)
both_are first_told second_told None at left right hands first second lefts rights kin same later parents records is_left is_right one other apart = tt
both_are first_told second_told (Some c) at left right hands first second lefts rights kin same later parents records is_left is_right one other apart =
    two_are c at left right hands first second lefts rights kin parents records is_left is_right
    (if_same first_told (Some c) (λ d. IsHandAt d at hands left first) (λ d told. same d (later d told)) one) (if_same second_told (Some c) (λ d. IsHandAt d at hands right second) later other) apart
