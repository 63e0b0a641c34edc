-- The marks stand where the value does.
use Rattle.std.specs.Prelude.{find, slice_get}
use Rattle.std.proofs.Common.{◌≡◌, ℕ, List, get_or, Some, sym, ◌∙◌, ap, subst, refl}
use Rattle.std.proofs.lemmas.Option.{slice_get-get_or}
use Rattle.mtn_base.specs.Names.{same_bytes}
use Rattle.mtn_roster.specs.declared.entry.Attr.{Attr}
use Rattle.mtn_marking.specs.declared.node.AttrMarks.{AttrMarks}
use Rattle.mtn_marking.proofs.Telling.{attr_there, told_attr}
use Rattle.mtn_marking.proofs.known.attr_of_node.Goals as goal

pub returns-in-Some-get : goal.returns-in-Some-get
returns-in-Some-get c n =
    let i = c.in-Some.place in
    let a = get_or c.as_slice-attrs.result.now i c.index-attrs-place.result in
    let value : slice_get c.args.found.node.now.attrs i ≡ Some a =
    ap (λ (l : List Attr). slice_get l i) (sym c.as_slice-attrs.ensures)
    ∙ slice_get-get_or c.as_slice-attrs.result.now i c.index-attrs-place.result c.in-Some.ensures.within in
    let marks : slice_get c.args.found.marking.now.attrs i ≡ Some c.in-Some-get.marked.now =
    ap (λ (l : List AttrMarks). slice_get l i) (sym c.as_slice.ensures)
    ∙ slice_get-get_or c.as_slice.result.now i c.in-Some-get.marked.now c.in-Some-get.ensures.lookup.3.0 ∙ ap Some (sym c.in-Some-get.ensures.lookup.1) in
    let hit : slice_get c.args.found.node.now.attrs i ≡ find (λ (a : Attr). same_bytes a.key c.args.attr.now.key) c.args.found.node.now.attrs =
    subst (λ (k : List ℕ). slice_get c.args.found.node.now.attrs i ≡ find (λ (a : Attr). same_bytes a.key k) c.args.found.node.now.attrs) c.as_slice-key.ensures
    (subst (λ (l : List Attr). slice_get l i ≡ find (λ (a : Attr). same_bytes a.key c.as_slice-key.result.now) l) c.as_slice-attrs.ensures c.in-Some.ensures.attr) in
    let t = attr_there c.args.found.node.now.attrs c.args.found.marking.now.attrs c.requires.orderly.0 c.requires.orderly.1 c.args.attr.now.key i a c.in-Some-get.marked.now value marks hit in
    told_attr c.args.attr.now.value a.value _ _ c.in-Some-get.marked.now.marks _ t.0 t.1 c.same_value.ensures refl
