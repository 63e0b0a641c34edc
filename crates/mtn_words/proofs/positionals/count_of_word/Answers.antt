use Rattle.std.proofs.Common.{inl, inr, sym, ◌∙◌, subst, arith}
use Rattle.std.specs.Prelude.{decimal}
use Rattle.std.specs.Cmp.Lexicographic.{bytes_decides}
use Rattle.std.specs.Str.{IsUtf8}
use Rattle.mtn_words.proofs.Counts.{counts, no_number, no_text, other_number, out_of_limits}
use Rattle.mtn_words.proofs.positionals.count_of_word.Goals.{then-count-eq0-via-then-count-eq0, then-count-eq0-via-else-count-eq0+then-count-gt-MAX_GENERATED}
use Rattle.mtn_words.proofs.positionals.count_of_word.Goals as goal

pub returns-in_default : goal.returns-in_default
returns-in_default c = no_text c.args.word.now (λ text. c.in_default.ensures.cases.0 (subst IsUtf8 (sym c.as_slice.ensures) text))

pub returns-in_default-parse : goal.returns-in_default-parse
returns-in_default-parse c = no_number c.args.word.now c.in-Ok.text.now c.in_default-parse.field-0 (c.in-Ok.ensures.cases.0 ∙ c.as_slice.ensures) c.in_default-parse.ensures.value.0

pub returns-then-count-eq0 : goal.returns-then-count-eq0
returns-then-count-eq0 c =
    out_of_limits c.args.word.now c.in-Ok.text.now c.in-Ok-parse.count c.parse.result c.in-Ok-parse.is (c.in-Ok.ensures.cases.0 ∙ c.as_slice.ensures) c.parse.ensures.value.0
    (elim c.then-count-eq0.branch [ then-count-eq0-via-then-count-eq0 w ↦ inl w.if-count-eq0.true | then-count-eq0-via-else-count-eq0+then-count-gt-MAX_GENERATED w ↦ inr w.if-count-gt-MAX_GENERATED.true ])

pub returns-then-branch : goal.returns-then-branch
returns-then-branch c =
    counts c.args.word.now c.in-Ok-parse.count record { is = (bytes_decides c.args.word.now (decimal c.in-Ok-parse.count)).0 (sym c.in_ok-is_written.ensures ∙ c.if-branch.true); some = omega (arith, c.if-count-eq0.false); few = omega (arith, c.if-count-gt-MAX_GENERATED.false) }

pub returns-else-branch : goal.returns-else-branch
returns-else-branch c =
    other_number c.args.word.now c.in-Ok.text.now c.in-Ok-parse.count c.parse.result c.in-Ok-parse.is (c.in-Ok.ensures.cases.0 ∙ c.as_slice.ensures) c.parse.ensures.value.0 (sym c.if-branch.false ∙ c.in_ok-is_written.ensures)
