-- What the attributes are read from is what the body left.
use Rattle.std.proofs.Common.{rules}
use Rattle.mtn_records.specs.Fields.{list_text, IsList}
use Rattle.mtn_records.specs.Entries.{attr_text, IsAttr, body_text, IsBodyOf}
use Rattle.mtn_records.specs.EntriesApart.{body_apart}
use Rattle.mtn_records.proofs.Reading.{pair_none}
use Rattle.mtn_records.proofs.entries.read_contents.Goals as goal

pub returns-in_err-attrs-clause-bad : goal.returns-in_err-attrs-clause-bad
returns-in_err-attrs-clause-bad c is =
    pair_none body_text (IsBodyOf c.args.file) (list_text attr_text) (IsList IsAttr) c.args.bytes.now c.in_ok-body.rest.now c.in_ok-body.body (body_apart c.args.file) c.in_ok-body.ensures.ok (c.in_err-attrs.ensures.bad (search rules))
