-- Cleared or live.
use Rattle.std.specs.Prelude.{codes}
use Rattle.std.proofs.Common.{List, [], ◌∷◌, ℕ, Option, sym, ◌∙◌, ap}
use Rattle.std.proofs.lemmas.Result.{on_ok_weaker}
use Rattle.mtn_basic_io.specs.declared.stanza.Value.TheVariants.{Text}
use Rattle.mtn_conflicts.specs.declared.item.Side.TheVariants.{Attr}
use Rattle.mtn_conflicts.specs.ConflictText.{left_lines, line_of}
use Rattle.mtn_conflicts.proofs.Written.{one_line}
use Rattle.mtn_conflicts.proofs.lines.write_left_value.Goals as goal

pub returns-in-None : goal.returns-in-None
returns-in-None c =
    on_ok_weaker _ (one_line c.args.column (line_of (codes "left_cleared") (Text c.as_slice.result.now ∷ [])) (left_lines c.args.key.now (Attr c.args.value.now)) c.args.out.now.items c.write_text_line.new.out.items
    (ap (λ (v : Option (List ℕ)). left_lines c.args.key.now (Attr v)) c.in-None.is ∙ ap (λ (v : List ℕ). line_of (codes "left_cleared") (Text v ∷ []) ∷ []) (sym c.as_slice.ensures))) c.write_text_line.ensures.ok

pub returns-in-Some : goal.returns-in-Some
returns-in-Some c =
    on_ok_weaker _ (one_line c.args.column (line_of (codes "left_value") (Text c.as_slice-in-Some.result.now ∷ [])) (left_lines c.args.key.now (Attr c.args.value.now)) c.args.out.now.items c.write_text_line-in-Some.new.out.items
    (ap (λ (v : Option (List ℕ)). left_lines c.args.key.now (Attr v)) c.in-Some.is ∙ ap (λ (v : List ℕ). line_of (codes "left_value") (Text v ∷ []) ∷ []) (sym c.as_slice-in-Some.ensures))) c.write_text_line-in-Some.ensures.ok
