-- The fault of an edge is a refusal of each text that has it alone.
use Rattle.std.proofs.Common.{◌≡◌, ℕ, List, [], ◌∷◌, Option, Some, None, ap, ◌∙◌}
use Rattle.mtn_base.specs.declared.id.Id.{Id}
use Rattle.mtn_base.specs.declared.refusal.Cause.{Cause}
use Rattle.mtn_changes.specs.declared.change.Edge.{Edge}
use Rattle.mtn_changeset_laws.specs.Changes.{or_else}
use Rattle.mtn_history_laws.specs.History.{Revision}
use Rattle.mtn_generated.specs.Numbered.{edge_fault}
use Rattle.mtn_model.specs.Table.{Table}
use Rattle.mtn_replay.specs.Making.{bad_change, bad_join, log_full, made_tree, refusal_of, tree_refusal, unknown_parent}

first_of_three : (a b c : Option Cause) (cause : Cause) → or_else a b ≡ Some cause → or_else a (or_else b c) ≡ Some cause
first_of_three None None c cause e = absurd cc
first_of_three None (Some x) c cause e = e
first_of_three (Some x) b c cause e = e

pub refused : (f : List ℕ → List ℕ) (files : Table) (h : List Revision) (id manifest : Id) (e : Edge) (cause : Cause) → log_full h ≡ None → edge_fault h e ≡ Some cause →
    refusal_of f files h id (record { manifest = manifest; edges = e ∷ [] }) ≡ Some cause
refused f files h id manifest e cause room fault =
    let rest = or_else (bad_join h id (e ∷ [])) (tree_refusal f files (record { manifest = manifest; edges = e ∷ [] }) (made_tree h id (e ∷ []))) in
    ap (λ (o : Option Cause). or_else o (or_else (unknown_parent h (e ∷ [])) (or_else (bad_change h 1 (e ∷ [])) rest))) room
    ∙ first_of_three (unknown_parent h (e ∷ [])) (bad_change h 1 (e ∷ [])) rest cause fault
