-- Words have one outcome.
use Rattle.std.proofs.Common.{◌≡◌, ℕ, List, Option, Some, None, sym, ap, ◌∙◌}
use Rattle.mtn_cli.specs.Run.{IsLawfulStore}
use Rattle.mtn_cli.specs.Step.{StepIn, StepOf, StepOlder, migrated_or, present}
use Rattle.mtn_frame.specs.Outcome.{JobOutcome as Ending}
use Rattle.mtn_model.specs.Outcome.{Outcome}
use Rattle.mtn_model.specs.State.{State}
use Rattle.mtn_old_stores.specs.Older.{OldState}
use Rattle.mtn_old_stores.specs.Stores.{MigratesOnce, Store}
use Rattle.mtn_old_stores.specs.Stores.Store.{Older, Present}
use Rattle.mtn_replay.specs.Lawful.{IsLawful}
use Rattle.mtn_step.specs.declared.call.Call.{Call}
use Rattle.mtn_step.specs.declared.call.Call.TheVariants.{Migrate}
use Rattle.mtn_step_laws.proofs.Outcomes.{one_of_step}

one_of_state : (f : List ℕ → List ℕ) (s : State) (call : Option Call) (payload : List ℕ) (o p : Outcome) → IsLawful f s → StepOf f call payload s o → StepOf f call payload s p → o ≡ p
one_of_state f s None payload o p lawful is also = is ∙ sym also
one_of_state f s (Some call) payload o p lawful is also = one_of_step f s call payload o p lawful is also

one_of_older : MigratesOnce → (s : OldState) (call : Option Call) (payload : List ℕ) (o p : Ending Store) → StepOlder call payload s o → StepOlder call payload s p → o ≡ p
one_of_older once s None payload o p is also = is ∙ sym also
one_of_older once s (Some Migrate) payload o p is also = is.2 ∙ ap (migrated_or s) (once payload s is.0 also.0 is.1 also.1) ∙ sym also.2
one_of_older once s (Some call) payload o p is also = is ∙ sym also

pub one_of_words : MigratesOnce → (f : List ℕ → List ℕ) (s : Store) (call : Option Call) (payload : List ℕ) (o p : Ending Store) → IsLawfulStore f s → StepIn f call payload s o → StepIn f call payload s p → o ≡ p
one_of_words once f (Present s) call payload o p lawful is also = is.2 ∙ ap present (one_of_state f s call payload is.0 also.0 lawful is.1 also.1) ∙ sym also.2
one_of_words once f (Older s) call payload o p lawful is also = one_of_older once s call payload o p is also
