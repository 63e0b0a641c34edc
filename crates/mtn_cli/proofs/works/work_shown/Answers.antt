-- What a command met, as it is shown.
use Rattle.std.proofs.Common.{Some, Ok, Err, sym, ◌∙◌, ap}
use Rattle.mtn_frame.specs.declared.works.WorkError.TheVariants as work
use Rattle.mtn_history.specs.Memory.{Knows}
use Rattle.mtn_cli.specs.Step.{StepIn}
use Rattle.mtn_commands.specs.Drafts.{reads_packets}
use Rattle.mtn_cli.specs.Store.{bounds_in, changes_of, checks_store, migrates_store}
use Rattle.mtn_cli.proofs.CheckLemmas.{not_checking}
use Rattle.mtn_cli.proofs.FirstLemmas.{as_first, as_given, as_met, damaged_so, none_stand, shows_line}
use Rattle.mtn_cli.proofs.works.work_shown.Goals as goal

pub returns-then-not-puts_many : goal.returns-then-not-puts_many
returns-then-not-puts_many g c =
    as_met (g.I.Ident.meaning c.args.ident.now) Knows g.K.Keeper.contents g.K.Keeper.leaves g.K.Keeper.faults g.K.Keeper.reads c.work_on-worked.new.memory _ _ (reads_packets (Some c.args.call.now)) (checks_store (Some c.args.call.now)) (migrates_store (Some c.args.call.now)) (StepIn (g.I.Ident.meaning c.args.ident.now) (Some c.args.call.now) c.args.payload) (bounds_in (g.I.Ident.meaning c.args.ident.now) (Some c.args.call.now) c.args.payload) (changes_of (g.I.Ident.meaning c.args.ident.now) (Some c.args.call.now) c.args.payload)
    c.args.keeper.now c.work_on-worked.new.keeper c.work_on-worked.result (λ line is. sym c.puts_many.ensures ∙ c.if-not-puts_many.true) c.work_on-worked.ensures

pub first_shown-requires-clause-line : goal.first_shown-requires-clause-line
first_shown-requires-clause-line g c = λ κs alive.
    shows_line (g.I.Ident.meaning c.args.ident.now) Knows g.K.Keeper.contents g.K.Keeper.leaves g.K.Keeper.faults g.K.Keeper.reads c.work_on-worked.new.memory _ _ (reads_packets (Some c.args.call.now)) (checks_store (Some c.args.call.now)) (migrates_store (Some c.args.call.now)) (StepIn (g.I.Ident.meaning c.args.ident.now) (Some c.args.call.now) c.args.payload) (bounds_in (g.I.Ident.meaning c.args.ident.now) (Some c.args.call.now) c.args.payload) (changes_of (g.I.Ident.meaning c.args.ident.now) (Some c.args.call.now) c.args.payload)
    c.args.keeper.now c.work_on-worked.new.keeper c.in-Err-Damaged.line
    (damaged_so (g.I.Ident.meaning c.args.ident.now) Knows g.K.Keeper.contents g.K.Keeper.leaves g.K.Keeper.faults g.K.Keeper.reads c.work_on-worked.new.memory _ _ (reads_packets (Some c.args.call.now)) (checks_store (Some c.args.call.now)) (migrates_store (Some c.args.call.now)) (StepIn (g.I.Ident.meaning c.args.ident.now) (Some c.args.call.now) c.args.payload) (bounds_in (g.I.Ident.meaning c.args.ident.now) (Some c.args.call.now) c.args.payload) (changes_of (g.I.Ident.meaning c.args.ident.now) (Some c.args.call.now) c.args.payload)
    c.args.keeper.now c.work_on-worked.new.keeper c.work_on-worked.result c.in-Err-Damaged.field-0 c.in-Err-Damaged.line c.in-Err-Damaged.is c.in-Err-Damaged.field-0-is c.work_on-worked.ensures)

pub first_shown-requires-clause-none : goal.first_shown-requires-clause-none
first_shown-requires-clause-none g c = λ κs alive.
    none_stand (g.I.Ident.meaning c.args.ident.now) Knows g.K.Keeper.contents g.K.Keeper.leaves g.K.Keeper.faults g.K.Keeper.reads c.work_on-worked.new.memory _ _ (reads_packets (Some c.args.call.now)) (checks_store (Some c.args.call.now)) (migrates_store (Some c.args.call.now)) (StepIn (g.I.Ident.meaning c.args.ident.now) (Some c.args.call.now) c.args.payload) (bounds_in (g.I.Ident.meaning c.args.ident.now) (Some c.args.call.now) c.args.payload) (changes_of (g.I.Ident.meaning c.args.ident.now) (Some c.args.call.now) c.args.payload)
    c.args.keeper.now c.work_on-worked.new.keeper c.in-Err-Damaged.line
    (damaged_so (g.I.Ident.meaning c.args.ident.now) Knows g.K.Keeper.contents g.K.Keeper.leaves g.K.Keeper.faults g.K.Keeper.reads c.work_on-worked.new.memory _ _ (reads_packets (Some c.args.call.now)) (checks_store (Some c.args.call.now)) (migrates_store (Some c.args.call.now)) (StepIn (g.I.Ident.meaning c.args.ident.now) (Some c.args.call.now) c.args.payload) (bounds_in (g.I.Ident.meaning c.args.ident.now) (Some c.args.call.now) c.args.payload) (changes_of (g.I.Ident.meaning c.args.ident.now) (Some c.args.call.now) c.args.payload)
    c.args.keeper.now c.work_on-worked.new.keeper c.work_on-worked.result c.in-Err-Damaged.field-0 c.in-Err-Damaged.line c.in-Err-Damaged.is c.in-Err-Damaged.field-0-is c.work_on-worked.ensures)

pub returns-in-Err-Damaged : goal.returns-in-Err-Damaged
returns-in-Err-Damaged g c =
    as_first (g.I.Ident.meaning c.args.ident.now) Knows g.K.Keeper.contents g.K.Keeper.leaves g.K.Keeper.faults g.K.Keeper.reads c.work_on-worked.new.memory _ _ (reads_packets (Some c.args.call.now)) (checks_store (Some c.args.call.now)) (migrates_store (Some c.args.call.now)) (StepIn (g.I.Ident.meaning c.args.ident.now) (Some c.args.call.now) c.args.payload) (bounds_in (g.I.Ident.meaning c.args.ident.now) (Some c.args.call.now) c.args.payload) (changes_of (g.I.Ident.meaning c.args.ident.now) (Some c.args.call.now) c.args.payload)
    c.args.keeper.now c.work_on-worked.new.keeper c.first_shown.new.keeper c.in-Err-Damaged.line c.first_shown.result (sym c.puts_many.ensures ∙ c.if-not-puts_many.false) (not_checking c.args.call.now c.requires.unchecked)
    (damaged_so (g.I.Ident.meaning c.args.ident.now) Knows g.K.Keeper.contents g.K.Keeper.leaves g.K.Keeper.faults g.K.Keeper.reads c.work_on-worked.new.memory _ _ (reads_packets (Some c.args.call.now)) (checks_store (Some c.args.call.now)) (migrates_store (Some c.args.call.now)) (StepIn (g.I.Ident.meaning c.args.ident.now) (Some c.args.call.now) c.args.payload) (bounds_in (g.I.Ident.meaning c.args.ident.now) (Some c.args.call.now) c.args.payload) (changes_of (g.I.Ident.meaning c.args.ident.now) (Some c.args.call.now) c.args.payload)
    c.args.keeper.now c.work_on-worked.new.keeper c.work_on-worked.result c.in-Err-Damaged.field-0 c.in-Err-Damaged.line c.in-Err-Damaged.is c.in-Err-Damaged.field-0-is c.work_on-worked.ensures) c.first_shown.ensures.stays c.first_shown.ensures.shown

pub returns-in-Ok : goal.returns-in-Ok
returns-in-Ok g c =
    as_given (g.I.Ident.meaning c.args.ident.now) Knows g.K.Keeper.contents g.K.Keeper.leaves g.K.Keeper.faults g.K.Keeper.reads c.work_on-worked.new.memory _ _ (reads_packets (Some c.args.call.now)) (checks_store (Some c.args.call.now)) (migrates_store (Some c.args.call.now)) (StepIn (g.I.Ident.meaning c.args.ident.now) (Some c.args.call.now) c.args.payload) (bounds_in (g.I.Ident.meaning c.args.ident.now) (Some c.args.call.now) c.args.payload) (changes_of (g.I.Ident.meaning c.args.ident.now) (Some c.args.call.now) c.args.payload)
    c.args.keeper.now c.work_on-worked.new.keeper c.work_on-worked.result (Ok c.in-Ok.done) (c.in-Ok.is) (λ line is. absurd cc) c.work_on-worked.ensures

pub returns-in-Err-Refused : goal.returns-in-Err-Refused
returns-in-Err-Refused g c =
    as_given (g.I.Ident.meaning c.args.ident.now) Knows g.K.Keeper.contents g.K.Keeper.leaves g.K.Keeper.faults g.K.Keeper.reads c.work_on-worked.new.memory _ _ (reads_packets (Some c.args.call.now)) (checks_store (Some c.args.call.now)) (migrates_store (Some c.args.call.now)) (StepIn (g.I.Ident.meaning c.args.ident.now) (Some c.args.call.now) c.args.payload) (bounds_in (g.I.Ident.meaning c.args.ident.now) (Some c.args.call.now) c.args.payload) (changes_of (g.I.Ident.meaning c.args.ident.now) (Some c.args.call.now) c.args.payload)
    c.args.keeper.now c.work_on-worked.new.keeper c.work_on-worked.result (Err (work.Refused c.in-Err-Refused.refusal)) (c.in-Err-Refused.is ∙ ap Err c.in-Err-Refused.field-0-is) (λ line is. absurd cc) c.work_on-worked.ensures

pub returns-in-Err-Usage : goal.returns-in-Err-Usage
returns-in-Err-Usage g c =
    as_given (g.I.Ident.meaning c.args.ident.now) Knows g.K.Keeper.contents g.K.Keeper.leaves g.K.Keeper.faults g.K.Keeper.reads c.work_on-worked.new.memory _ _ (reads_packets (Some c.args.call.now)) (checks_store (Some c.args.call.now)) (migrates_store (Some c.args.call.now)) (StepIn (g.I.Ident.meaning c.args.ident.now) (Some c.args.call.now) c.args.payload) (bounds_in (g.I.Ident.meaning c.args.ident.now) (Some c.args.call.now) c.args.payload) (changes_of (g.I.Ident.meaning c.args.ident.now) (Some c.args.call.now) c.args.payload)
    c.args.keeper.now c.work_on-worked.new.keeper c.work_on-worked.result (Err work.Usage) (c.in-Err-Usage.is ∙ ap Err c.in-Err-Usage.field-0-is) (λ line is. absurd cc) c.work_on-worked.ensures

pub returns-in-Err-Failed : goal.returns-in-Err-Failed
returns-in-Err-Failed g c =
    as_given (g.I.Ident.meaning c.args.ident.now) Knows g.K.Keeper.contents g.K.Keeper.leaves g.K.Keeper.faults g.K.Keeper.reads c.work_on-worked.new.memory _ _ (reads_packets (Some c.args.call.now)) (checks_store (Some c.args.call.now)) (migrates_store (Some c.args.call.now)) (StepIn (g.I.Ident.meaning c.args.ident.now) (Some c.args.call.now) c.args.payload) (bounds_in (g.I.Ident.meaning c.args.ident.now) (Some c.args.call.now) c.args.payload) (changes_of (g.I.Ident.meaning c.args.ident.now) (Some c.args.call.now) c.args.payload)
    c.args.keeper.now c.work_on-worked.new.keeper c.work_on-worked.result (Err work.Failed) (c.in-Err-Failed.is ∙ ap Err c.in-Err-Failed.field-0-is) (λ line is. absurd cc) c.work_on-worked.ensures

pub returns-in-Err-NoMemory : goal.returns-in-Err-NoMemory
returns-in-Err-NoMemory g c =
    as_given (g.I.Ident.meaning c.args.ident.now) Knows g.K.Keeper.contents g.K.Keeper.leaves g.K.Keeper.faults g.K.Keeper.reads c.work_on-worked.new.memory _ _ (reads_packets (Some c.args.call.now)) (checks_store (Some c.args.call.now)) (migrates_store (Some c.args.call.now)) (StepIn (g.I.Ident.meaning c.args.ident.now) (Some c.args.call.now) c.args.payload) (bounds_in (g.I.Ident.meaning c.args.ident.now) (Some c.args.call.now) c.args.payload) (changes_of (g.I.Ident.meaning c.args.ident.now) (Some c.args.call.now) c.args.payload)
    c.args.keeper.now c.work_on-worked.new.keeper c.work_on-worked.result (Err work.NoMemory) (c.in-Err-NoMemory.is ∙ ap Err c.in-Err-NoMemory.field-0-is) (λ line is. absurd cc) c.work_on-worked.ensures
