-- Attributes with their marks, one more each time.
use Rattle.std.specs.Prelude.{map}
use Rattle.std.proofs.Common.{◌≡◌, ℕ, ◌+◌, ◌<◌, List, [], ◌∷◌, ◌++◌, length, take, get_or, Some, sym, ◌∙◌, ap, subst}
use Rattle.std.proofs.lemmas.List.{take_more}
use Rattle.std.proofs.lemmas.Option.{slice_get-get_or}
use Rattle.mtn_marking.specs.declared.node.AttrMarks.{AttrMarks}
use Rattle.mtn_marking.proofs.Fitting.{keys_long}
use Rattle.mtn_marking.proofs.Telling.{key_in, key_of, same_key}
use Rattle.mtn_records.specs.declared.entry.NumberedAttr.{NumberedAttr}
use Rattle.mtn_roster.specs.declared.entry.Attr.{Attr}
use Rattle.mtn_roster.proofs.Stops.{map-snoc}
use Rattle.mtn_roster_deltas.specs.Spelled.{attr_of, attr_marks_of}

module _ (attrs : List Attr) (marks : List AttrMarks) (keys : map key_in marks ≡ map key_of attrs) (xs xs' : List NumberedAttr) (i : ℕ) (lt : i < length attrs) (a : Attr) (m : AttrMarks) (z : NumberedAttr)
    (at_a : a ≡ get_or attrs i a) (at_m : m ≡ get_or marks i m) (key : z.key ≡ a.key) (more : xs' ≡ xs ++ z ∷ []) where
  within : i < length marks
  within = subst (λ n. i < n) (keys_long attrs marks keys) lt

  pub attrs_more : z.value ≡ a.value → take i attrs ≡ map attr_of xs → take (i + 1) attrs ≡ map attr_of xs'
  attrs_more value h =
      let same : a ≡ attr_of z = (let k = sym key in let v = sym value in λ j. record { key = k j; value = v j }) in
      take_more attrs i a lt ∙ ap (λ y. take i attrs ++ y ∷ []) (sym at_a ∙ same) ∙ ap (λ l. l ++ attr_of z ∷ []) h ∙ sym (map-snoc attr_of xs z) ∙ ap (map attr_of) (sym more)

  pub marks_more : z.marks ≡ m.marks → take i marks ≡ map attr_marks_of xs → take (i + 1) marks ≡ map attr_marks_of xs'
  marks_more told h =
      let k : m.key ≡ a.key = same_key attrs marks keys i a m (slice_get-get_or attrs i a lt ∙ ap Some (sym at_a)) (slice_get-get_or marks i m within ∙ ap Some (sym at_m)) in
      let same : m ≡ attr_marks_of z = (let q = k ∙ sym key in let v = sym told in λ j. record { key = q j; marks = v j }) in
      take_more marks i m within ∙ ap (λ y. take i marks ++ y ∷ []) (sym at_m ∙ same) ∙ ap (λ l. l ++ attr_marks_of z ∷ []) h ∙ sym (map-snoc attr_marks_of xs z) ∙ ap (map attr_marks_of) (sym more)
