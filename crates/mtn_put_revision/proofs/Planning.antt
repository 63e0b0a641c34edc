-- What a planned tree tells of a new revision, and along a draft's steps.
use Rattle.std.specs.Prelude.{IfSome}
use Rattle.std.proofs.Common.{◌≡◌, ◌∙◌, ℕ, List, Option, None, sym, ap, subst}
use Rattle.mtn_base.specs.Hex.{id_of}
use Rattle.mtn_base.specs.declared.id.Id.{Id}
use Rattle.mtn_history_laws.specs.History.{Revision}
use Rattle.mtn_replay.specs.Making.{place_of, made_tree, refusal_of}
use Rattle.mtn_model.specs.State.{State}
use Rattle.mtn_model.specs.Table.{Table, Contents}
use Rattle.mtn_ports.specs.Kept.{Same}
use Rattle.mtn_roster.specs.Tree.{Tree}
use Rattle.mtn_history.specs.Stands.{IsFounded}
use Rattle.mtn_history.specs.declared.pending.Pending.{Pending}
use Rattle.mtn_history.proofs.Founding.{back}
use Rattle.mtn_put_revision.specs.Finding.{made_refusal_of}
use Rattle.mtn_put_revision.specs.Keeping.{IsNew, IsPlanned}
use Rattle.mtn_put_revision.specs.declared.over.NewRevision.{NewRevision}
use Rattle.mtn_put_revision.proofs.Deciding.{refused_made}
use Rattle.mtn_put_revision.proofs.Grounds.{moved}

module _ (f : List ℕ → List ℕ) (files : Table) (h : List Revision) (fresh : NewRevision) (t : Tree) (plan : IsPlanned f files h fresh.text.now t) (new : IsNew f h fresh) where
  named : id_of (f fresh.text.now) ≡ fresh.id
  named = ap id_of new.id

  pub planned_fine : made_refusal_of f files h fresh.id fresh.read.now ≡ None
  planned_fine =
      sym (refused_made f files h fresh.id fresh.read.now new.room new.known)
      ∙ ap (λ (i : Id). refusal_of f files h i fresh.read.now) (sym named)
      ∙ (plan fresh.read.now new.spells (subst (λ (i : Id). place_of h i ≡ None) (sym named) new.new) new.room).0

  pub planned_tree : t ≡ made_tree h fresh.id fresh.read.now.edges
  planned_tree =
      sym (plan fresh.read.now new.spells (subst (λ (i : Id). place_of h i ≡ None) (sym named) new.new) new.room).1
      ∙ ap (λ (i : Id). made_tree h i fresh.read.now.edges) named

-- a tree that was planned over a draft
abbrev pub ArePlanned : (List ℕ → List ℕ) → Option Contents → Pending → List ℕ → Option Tree → Type 0
ArePlanned f told p text o = (s : State) → (d : IsFounded f told p s) → IfSome o (λ t. IsPlanned f s.files d.stands.history text t)

-- it is planned still where the records are told again
pub planned_on : (f : List ℕ → List ℕ) (old new : Option Contents) (p q : Pending) (text : List ℕ) (o : Option Tree) → Same old new → q ≡ p → ArePlanned f old p text o → ArePlanned f new q text o
planned_on f old new p q text o same is plan = moved (λ (x : Pending). ArePlanned f new x text o) p q (sym is) (λ s d. plan s (back f old new p s same d))
