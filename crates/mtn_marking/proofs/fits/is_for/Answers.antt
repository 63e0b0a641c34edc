-- The name, the kind and the keys.
use Rattle.std.proofs.Common.{◌≡◌, ◌∙◌, List, sym, subst, map}
use Rattle.std.specs.Prelude.{◌↔◌, IsTrue}
use Rattle.mtn_roster.specs.declared.entry.Attr.{Attr}
use Rattle.mtn_marking.specs.declared.node.AttrMarks.{AttrMarks}
use Rattle.mtn_marking.proofs.Telling.{key_of, key_in}
use Rattle.mtn_marking.proofs.Fitting.{like, not_like, other_name, other_kind, by_keys}
use Rattle.mtn_marking.proofs.fits.is_for.Goals as goal

pub returns-then-not-same : goal.returns-then-not-same
returns-then-not-same c = (λ t. absurd cc, λ f. absurd (other_name c.args.entry.now c.args.node.now (sym c.same.ensures ∙ c.if-not-same.true) f))

pub returns-then-is_some-is_dir : goal.returns-then-is_some-is_dir
returns-then-is_some-is_dir c = (
  λ t. absurd cc,
  λ f. absurd (other_kind c.args.entry.now c.args.node.now (sym c.is_some.ensures ∙ like c.is_some.result c.is_dir.result c.if-is_some-is_dir.true ∙ c.is_dir.ensures) f),
)

pub returns : goal.returns
returns c =
    by_keys c.args.entry.now c.args.node.now c.have_same_keys.result (sym c.same.ensures ∙ c.if-not-same.false)
    (λ e. not_like c.is_some.result c.is_dir.result c.if-is_some-is_dir.false (c.is_some.ensures ∙ e ∙ sym c.is_dir.ensures))
    (subst (λ (xs : List Attr). IsTrue c.have_same_keys.result ↔ (map key_in c.args.node.now.marking.attrs ≡ map key_of xs)) c.as_slice.ensures
    (subst (λ (ms : List AttrMarks). IsTrue c.have_same_keys.result ↔ (map key_in ms ≡ map key_of c.as_slice.result.now)) c.as_slice-2.ensures c.have_same_keys.ensures))
