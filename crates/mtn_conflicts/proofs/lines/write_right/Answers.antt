-- By what the side has.
use Rattle.std.specs.Prelude.{codes, OnOk}
use Rattle.std.specs.List.{flat_map}
use Rattle.std.proofs.Common.{◌≡◌, ◌≤◌, [], ◌∷◌, ◌++◌, Some, sym, ap, subst}
use Rattle.std.proofs.lemmas.Result.{on_ok_weaker}
use Rattle.mtn_basic_io.specs.Spelling.{line_text, longest}
use Rattle.mtn_basic_io.specs.declared.stanza.Value.TheVariants.{Hex}
use Rattle.mtn_conflicts.specs.declared.item.Side.{Side}
use Rattle.mtn_conflicts.specs.ConflictText.{right_lines, line_of, name_line, parent_line}
use Rattle.mtn_conflicts.proofs.Written.{one_line, two_lines}
use Rattle.mtn_conflicts.proofs.lines.write_right.Goals as goal

pub returns-in_ok-write_parent-in-At : goal.returns-in_ok-write_parent-in-At
returns-in_ok-write_parent-in-At c =
    on_ok_weaker _ (two_lines c.args.column (parent_line (codes "right_parent") c.in-At.slot) (name_line (codes "right_name") c.in-At.slot) (right_lines c.args.key.now c.args.side.now) c.args.out.now.items c.write_parent.new.out.items c.write_name.new.out.items
    (ap (right_lines c.args.key.now) c.in-At.is) c.in_ok-write_parent-in-At.ensures) c.write_name.ensures

pub returns-in-Content : goal.returns-in-Content
returns-in-Content c =
    on_ok_weaker _ (one_line c.args.column (line_of (codes "right_content") (Hex (Some c.in-Content.content) ∷ [])) (right_lines c.args.key.now c.args.side.now) c.args.out.now.items c.write_id_line.new.out.items (ap (right_lines c.args.key.now) c.in-Content.is)) c.write_id_line.ensures.ok

pub write_right_value-requires : goal.write_right_value-requires
write_right_value-requires c = subst (λ (s : Side). longest (right_lines c.args.key.now s) ≤ c.args.column) c.in-Attr.is c.requires

pub returns-in-Attr : goal.returns-in-Attr
returns-in-Attr c =
    subst (λ (s : Side). OnOk c.write_right_value.result (c.write_right_value.new.out.items ≡ c.args.out.now.items ++ flat_map (line_text c.args.column) (right_lines c.args.key.now s))) (sym c.in-Attr.is) c.write_right_value.ensures
