-- How a single command ends, over records that stand for a store and that are told at the end.
use Rattle.std.specs.Prelude.{bytes_eq, codes, if◌then◌else◌, take}
use Rattle.std.specs.List.{list_all}
use Rattle.std.specs.Option.{option_and_then}
use Rattle.std.specs.Str.{is_utf8}
use Rattle.std.specs.Cmp.Lexicographic.{bytes_decides}
use Rattle.std.specs.Io.KnownBytes.{Appends}
use Rattle.std.proofs.Common.{◌≡◌, ℕ, Bool, true, false, List, [], ◌∷◌, Option, Some, None, inl, inr, refl, sym, ◌∙◌, subst}
use Rattle.std.proofs.lemmas.Bool.{and_parts}
use Rattle.mtn_frame.specs.Frame.{CutShort, Done, LeavesSource, Meets, Stopped, StoppedShort, Tells, Told, Untouched, WalkedAll, WalkedShort}
use Rattle.mtn_frame.specs.Kinds.{ByKind, Kind, kind_of}
use Rattle.mtn_frame.specs.Kinds.Kind.{Answered, Cut, Halted, Hurt, Quiet}
use Rattle.mtn_frame.specs.Outcome.{JobOutcome as Ending}
use Rattle.mtn_frame.specs.Payload.{takes_last}
use Rattle.mtn_frame.specs.Script.{IsScriptIf, is_session, jobs_of}
use Rattle.mtn_frame.specs.Top.{fed}
use Rattle.mtn_frame.specs.declared.script.Job.TheVariants.{Call}
use Rattle.mtn_frame.specs.declared.script.Script.{Script}
use Rattle.mtn_frame.specs.declared.script.Script.TheVariants.{Bare}
use Rattle.mtn_frame.proofs.OneLemmas.{writes_nothing}
use Rattle.mtn_frame.proofs.SingleLemmas.{single_cut, single_done, single_halted}
use Rattle.mtn_model.specs.Table.{Contents}
use Rattle.mtn_model.specs.declared.status.Status.{Status}
use Rattle.mtn_old_stores.specs.Stores.{StandsIn, Store}
use Rattle.mtn_step.specs.declared.call.Call.{Call as Step_call}
use Rattle.mtn_words.specs.Calls.{call_of, call_with}
use Rattle.mtn_words.specs.declared.words.Command.{Command}
use Rattle.mtn_cli.specs.Run.{Outcomes, Scripts, is_read}
use Rattle.mtn_cli.specs.Step.{Step}

-- the words of a session are those of no command
abbrev called : Option Command → Option Step_call
called = option_and_then (λ (c : Command). call_with c.options c.name c.positionals)

any_text : (words : List (List ℕ)) (c : Option Command) → called c ≡ None → called (if list_all is_utf8 words then c else None) ≡ None
any_text words c e = elim (list_all is_utf8 words) as (λ b. called (if b then c else None) ≡ None) [ true ↦ e | false ↦ refl ]

no_call : (words : List (List ℕ)) → is_session words ≡ true → call_of words ≡ None
no_call [] e = absurd cc
no_call (word ∷ []) e = subst (λ (w : List ℕ). call_of (w ∷ []) ≡ None) (sym ((bytes_decides word (codes "stdio")).0 e))
    (any_text (codes "stdio" ∷ []) (Some (record { name = codes "stdio"; options = []; positionals = [] })) refl)
no_call (word ∷ end ∷ []) e =
    let both = and_parts (bytes_eq word (codes "stdio")) (bytes_eq end (codes "--")) e in
    subst (λ (w : List ℕ). call_of (w ∷ end ∷ []) ≡ None) (sym ((bytes_decides word (codes "stdio")).0 both.0))
    (subst (λ (x : List ℕ). call_of (codes "stdio" ∷ x ∷ []) ≡ None) (sym ((bytes_decides end (codes "--")).0 both.1))
    (any_text (codes "stdio" ∷ codes "--" ∷ []) (Some (record { name = codes "stdio"; options = []; positionals = [] })) refl))
no_call (_ ∷ _ ∷ _ ∷ _) e = absurd cc

pub not_session : (words : List (List ℕ)) (call : Step_call) → call_of words ≡ Some call → is_session words ≡ false
not_session words call named = by (is_session words) refl
  where
    by : (b : Bool) → is_session words ≡ b → b ≡ false
    by false e = refl
    by true e = absurd (let z : None ≡ Some call = sym (no_call words e) ∙ named in cc)

-- its outcome, answered whole
pub record EndsWhole (f : List ℕ → List ℕ) (words : List (List ℕ)) (payload : List ℕ) (s : Store) (reads : Bool) (before after : Told) (d : Contents) (result : Status) : Type 0 where
  pub outcome : Ending Store
  pub does : Step f words payload s outcome
  pub status : result ≡ outcome.status
  pub stands : StandsIn f d outcome.state
  pub written : Appends before.written after.written outcome.output
  pub source : LeavesSource reads before.left after.left

-- its outcome, of which a front was answered
pub record EndsCut (f : List ℕ → List ℕ) (words : List (List ℕ)) (payload : List ℕ) (s : Store) (before after : Told) (d : Contents) : Type 0 where
  pub outcome : Ending Store
  pub does : Step f words payload s outcome
  pub stands : StandsIn f d outcome.state
  pub front : ℕ
  pub written : Appends before.written after.written (take front outcome.output)

-- nothing was written
nothing_more : (before after : Told) → Untouched before after → Appends before.written after.written []
nothing_more before after untouched = subst (λ w. Appends before.written w []) (sym untouched.written) (writes_nothing before.written)

pub single_ends : (f : List ℕ → List ℕ) (words : List (List ℕ)) (before after : Told) (result : Status) → Meets (StandsIn f) (Outcomes f) (Scripts words) (is_read words) before after result → (call : Step_call) → call_of words ≡ Some call →
    (s : Store) (input w : List ℕ) (d : Contents) → Tells (StandsIn f) (is_read words) before s input w → after.contents ≡ Some d →
    ByKind (kind_of result) (EndsWhole f words (fed (is_read words) input) s (is_read words) before after d result) (EndsCut f words (fed (is_read words) input) s before after d) (Appends before.written after.written []) (Appends before.written after.written []) ⊥
single_ends f words before after result meets call named s input w d tells told = by (kind_of result) (meets s input w d tells told)
  where
    payload : List ℕ
    payload = fed (is_read words) input

    is_bare : (script : Script) → Scripts words input script → script ≡ Bare (Call words payload)
    is_bare script is = subst (λ b. IsScriptIf b takes_last words payload script) (not_session words call named) is

    whole : Done (StandsIn f) (Outcomes f) (Scripts words input) s (is_read words) before after d result → EndsWhole f words payload s (is_read words) before after d result
    whole all =
        let one = single_done (StandsIn f) (Outcomes f) (Call words payload) s d before.written after.written result (subst (λ x. WalkedAll (StandsIn f) (Outcomes f) x s d before.written after.written result) (is_bare all.script all.is) all.all) in
        record { outcome = one.0; does = one.1; status = one.2; stands = one.3; written = one.4; source = all.source }

    cut : CutShort (StandsIn f) (Outcomes f) (Scripts words input) s before after d → EndsCut f words payload s before after d
    cut short =
        let one = single_cut (StandsIn f) (Outcomes f) (Call words payload) s d before.written after.written (subst (λ x. WalkedShort (StandsIn f) (Outcomes f) x s (jobs_of x) d before.written after.written) (is_bare short.script short.is) short.some) in
        record { outcome = one.0; does = one.1; stands = one.2; front = one.3.0; written = one.3.1 }

    halted : StoppedShort (StandsIn f) (Outcomes f) (Scripts words input) s before after d → Appends before.written after.written []
    halted (inl untouched) = nothing_more before after untouched
    halted (inr (script, is, stopped)) = (single_halted (StandsIn f) (Outcomes f) (Call words payload) s d before.written after.written (subst (λ x. Stopped (StandsIn f) (Outcomes f) x s d before.written after.written) (is_bare script is) stopped)).1

    by : (k : Kind) → ByKind k (Done (StandsIn f) (Outcomes f) (Scripts words input) s (is_read words) before after d result) (CutShort (StandsIn f) (Outcomes f) (Scripts words input) s before after d) (StoppedShort (StandsIn f) (Outcomes f) (Scripts words input) s before after d) (Untouched before after) ⊥ →
        ByKind k (EndsWhole f words payload s (is_read words) before after d result) (EndsCut f words payload s before after d) (Appends before.written after.written []) (Appends before.written after.written []) ⊥
    by Answered x = whole x
    by Cut x = cut x
    by Halted x = halted x
    by Quiet x = nothing_more before after x
    by Hurt x = x
