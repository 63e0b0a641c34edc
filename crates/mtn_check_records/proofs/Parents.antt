-- The parents that were read are those that the edges name in the history of the front.
use Rattle.std.specs.Prelude.{filter_map, find, is_none, option_and_then, option_map, All}
use Rattle.std.specs.List.{AllByRecursion, AllZip, cons_option}
use Rattle.std.proofs.Common.{◌≡◌, ◌<◌, ◌^◌, ℕ, cond, List, [], ◌∷◌, ◌++◌, length, Option, Some, None, refl, sym, ap, ◌∙◌, subst, arith}
use Rattle.std.proofs.lemmas.List.Elements.{All-from_recursion}
use Rattle.mtn_base.specs.declared.id.Id.{Id}
use Rattle.mtn_base.specs.declared.refusal.Cause.TheVariants.{UnknownParent}
use Rattle.mtn_changes.specs.declared.change.Edge.{Edge}
use Rattle.mtn_check_laws.specs.Fronts.{Front, StandsTo}
use Rattle.mtn_check_laws.proofs.Walks.{one_body}
use Rattle.mtn_check_pieces.specs.declared.job.CheckJob.{CheckJob}
use Rattle.mtn_check_pieces_laws.specs.Behind.{IsKeptRecord, AreApartIn, IsJobBehind}
use Rattle.mtn_history_laws.specs.History.{Revision, IsGrown, IsPlaceOf}
use Rattle.mtn_model.specs.Table.{Contents, body_at}
use Rattle.mtn_put_revision.specs.Keeping.{AreKeptAt, IsFirstDepth, IsWhole}
use Rattle.mtn_records.specs.Apart.{number_apart}
use Rattle.mtn_records.specs.Fields.{number_text}
use Rattle.mtn_records.specs.declared.record.RosterRecord.{RosterRecord}
use Rattle.mtn_records.specs.declared.record.RosterRecord.TheVariants.{Whole}
use Rattle.mtn_replay.specs.Making.{place_of, parents_of}
use Rattle.mtn_replay.proofs.Histories.{history_is_grown}
use Rattle.mtn_replay.proofs.Places.{inside, no_place, place_has, place_within, within}
use Rattle.mtn_roster_deltas.specs.Chain.{Entries}
use Rattle.mtn_check_records.specs.Due.{first_depth, AreWholeAt, HasEntries}
use Rattle.mtn_check_records.specs.Reading.{ids_of, named_in, places_of, IsParentIn, IsReadAt}
use Rattle.mtn_check_records.specs.declared.hand.Parent.{Parent}
use Rattle.mtn_check_records.specs.declared.hand.Position.{Position}

-- where the parents of edges stand, by their ids
pub places_by : (h : List Revision) (edges : List Edge) → parents_of h edges ≡ filter_map (place_of h) (named_in edges)
places_by h [] = refl
places_by h (e ∷ edges) =
    elim e.parent as (λ o. cons_option (option_and_then (place_of h) o) (parents_of h edges) ≡ filter_map (place_of h) (cons_option o (named_in edges))) [
      | None ↦ places_by h edges
      | Some a ↦ ap (λ ps. cons_option (place_of h a) ps) (places_by h edges)
    ]

module _ (h : List Revision) (grown : IsGrown h) where
  -- an id stands once
  place_is : (p : ℕ) (id : Id) → IsPlaceOf h id p → place_of h id ≡ Some p
  place_is p id there = by (place_of h id) refl
    where
      by : (o : Option ℕ) → place_of h id ≡ o → o ≡ Some p
      by None none = absurd (no_place h id none p there)
      by (Some q) some = ap Some (grown.differ id q p (place_has h id q some) there)

one_whole : (es fs : Entries) (r : RosterRecord) → r ≡ Whole es → r ≡ Whole fs → fs ≡ es
one_whole es fs r a b = cc

module _ (front : Front) (grown : IsGrown front.history) where
  abbrev h : List Revision
  h = front.history

  parent_place : (q : Parent) (r : RosterRecord) → IsParentIn front q r → place_of h q.id ≡ Some q.at
  parent_place q r is = place_is h grown q.at q.id (is.is.revision, is.is.made, is.is.same ∙ sym is.id)

  places_are : (qs : List Parent) (rs : List RosterRecord) → AllZip (IsParentIn front) qs rs → filter_map (place_of h) (ids_of qs) ≡ places_of qs
  places_are [] [] are = refl
  places_are [] (r ∷ rs) are = absurd are
  places_are (q ∷ qs) [] are = absurd are
  places_are (q ∷ qs) (r ∷ rs) are =
      ap (λ o. cons_option o (filter_map (place_of h) (ids_of qs))) (parent_place q r are.0) ∙ ap (λ l. q.at ∷ l) (places_are qs rs are.1)

  none_unknown : (qs : List Parent) (rs : List RosterRecord) → AllZip (IsParentIn front) qs rs → find (λ id. is_none (place_of h id)) (ids_of qs) ≡ None
  none_unknown [] [] are = refl
  none_unknown [] (r ∷ rs) are = absurd are
  none_unknown (q ∷ qs) [] are = absurd are
  none_unknown (q ∷ qs) (r ∷ rs) are =
      ap (λ o. cond (is_none o) (Some q.id) (find (λ id. is_none (place_of h id)) (ids_of qs))) (parent_place q r are.0) ∙ none_unknown qs rs are.1

  records_are : (qs : List Parent) (rs : List RosterRecord) → AllZip (IsParentIn front) qs rs → AllZip (IsKeptRecord front.kept) (places_of qs) rs
  records_are [] [] are = tt
  records_are [] (r ∷ rs) are = absurd are
  records_are (q ∷ qs) [] are = absurd are
  records_are (q ∷ qs) (r ∷ rs) are = (
    record { kept = record { entries = are.0.hand.entries; next = are.0.hand.next; depth = are.0.hand.depth }; held = are.0.is.kept; whole = are.0.whole },
    records_are qs rs are.1,
  )

  -- their entries are what is kept of them
  pub kept_are : (qs : List Parent) (rs : List RosterRecord) (known : List Entries) → AllZip (IsParentIn front) qs rs → AllZip HasEntries rs known → AreKeptAt front.kept (places_of qs) known
  kept_are [] [] [] are z = tt
  kept_are [] [] (es ∷ known) are z = absurd z
  kept_are [] (r ∷ rs) known are z = absurd are
  kept_are (q ∷ qs) [] known are z = absurd are
  kept_are (q ∷ qs) (r ∷ rs) [] are z = absurd z
  kept_are (q ∷ qs) (r ∷ rs) (es ∷ known) are z = (
    (
      record { entries = are.0.hand.entries; next = are.0.hand.next; depth = are.0.hand.depth },
      are.0.is.kept,
      one_whole are.0.hand.entries es r are.0.whole z.0,
    ),
    kept_are qs rs known are.1 z.1,
  )

  -- they stand below, and their records are whole
  low_each : (qs : List Parent) (rs : List RosterRecord) → AllZip (IsParentIn front) qs rs → AllByRecursion (λ p. p < length h) (places_of qs)
  low_each [] rs are = tt
  low_each (q ∷ qs) [] are = absurd are
  low_each (q ∷ qs) (r ∷ rs) are = (inside h q.at are.0.is.revision are.0.is.made, low_each qs rs are.1)

  pub are_low : (qs : List Parent) (rs : List RosterRecord) → AllZip (IsParentIn front) qs rs → All (λ p. p < length h) (places_of qs)
  are_low qs rs are = All-from_recursion (λ p. p < length h) (places_of qs) (low_each qs rs are)

  pub are_whole : (qs : List Parent) (rs : List RosterRecord) → AllZip (IsParentIn front) qs rs → AreWholeAt (places_of qs) rs
  are_whole [] [] are = tt
  are_whole [] (r ∷ rs) are = absurd are
  are_whole (q ∷ qs) [] are = absurd are
  are_whole (q ∷ qs) (r ∷ rs) are = (subst IsWhole (sym are.0.whole) tt, are_whole qs rs are.1)

  pub first_is : (qs : List Parent) (rs : List RosterRecord) → AllZip (IsParentIn front) qs rs → IsFirstDepth front.kept (places_of qs) (first_depth qs)
  first_is [] rs are = tt
  first_is (q ∷ qs) [] are = absurd are
  first_is (q ∷ qs) (r ∷ rs) are = (
    record { entries = are.0.hand.entries; next = are.0.hand.next; depth = are.0.hand.depth },
    are.0.is.kept,
    are.0.depth,
  )

fits_64 : (n : ℕ) → n < 2147483648 → n < 2 ^ 64
fits_64 n lt = omega (arith, lt)

module _ (f : List ℕ → List ℕ) (c : Contents) (r : ℕ) (front : Front) (x : Position) (job : CheckJob) (stands : StandsTo f c r front) (low : r < 2147483648) (at : IsReadAt c r front x job) where
  pub long : length front.history ≡ r
  long = stands.spelled.long ∙ stands.long

  pub grown : IsGrown front.history
  grown = history_is_grown f (c 2) front.log front.history stands.spelled

  -- a text of an earlier revision has an earlier position in front
  earlier : (q : ℕ) → place_of front.history job.id ≡ Some q → ⊥
  earlier q there =
      let lt = place_within front.history job.id q there in
      let v = place_has front.history job.id q there in
      let l = within front.log q (omega (arith, lt, stands.spelled.long)) in
      let named : l.0.id ≡ x.entry.id.0 =
      ap (λ (i : Id). i.0) (sym (ap (λ (w : Revision). w.id) (stands.spelled.each q l.0 v.0 l.1 v.1).made) ∙ v.2 ∙ at.id) in
      let held : body_at c 3 x.entry.id.0 ≡ Some (number_text q ++ l.0.text) = ap (body_at c 3) (sym named) ∙ stands.texts q l.0 l.1 in
      let under : q < r = omega (arith, lt, long) in
      let same = number_apart q r l.0.text job.text (fits_64 q (omega (arith, under, low))) (fits_64 r low)
      (one_body (body_at c 3 x.entry.id.0) (number_text q ++ l.0.text) (number_text r ++ job.text) held at.text) in
      let is = same.0 in
      omega (arith, is, under)

  pub fresh : place_of front.history job.id ≡ None
  fresh = by (place_of front.history job.id) refl
    where
      by : (o : Option ℕ) → place_of front.history job.id ≡ o → o ≡ None
      by None e = refl
      by (Some q) e = absurd (earlier q e)

  module _ (edges : List Edge) (named : named_in edges ≡ ids_of x.parents) where
    pub parents_are : parents_of front.history edges ≡ places_of x.parents
    parents_are =
        places_by front.history edges ∙ ap (filter_map (place_of front.history)) named
        ∙ places_are front grown x.parents job.parents at.parents

    pub behind : IsJobBehind front edges job
    behind = record {
      fresh = fresh;
      here = at.here ∙ sym long;
      named = ap (λ (ids : List Id). option_map UnknownParent (find (λ id. is_none (place_of front.history id)) ids)) named
          ∙ ap (option_map UnknownParent) (none_unknown front grown x.parents job.parents at.parents);
      records = subst (λ ps. AllZip (IsKeptRecord front.kept) ps job.parents) (sym parents_are)
          (records_are front grown x.parents job.parents at.parents);
      apart = subst (λ ps. AreApartIn front.history ps job) (sym parents_are) at.apart;
    }
