use Rattle.std.proofs.Common.{List, Some, sym, subst}
use Rattle.std.specs.Prelude.{IfErr}
use Rattle.std.proofs.lemmas.Result.{on_ok_weaker}
use Rattle.mtn_basic_io.specs.Spelling.{LineText}
use Rattle.mtn_changes.specs.Stanzas.{IsRead}
use Rattle.mtn_changes.specs.Lists.{IsFault}
use Rattle.mtn_changes.proofs.Parts.{whole_part, next_put}
use Rattle.mtn_changes.proofs.order.Part.add.Goals as goal

pub returns : goal.returns
returns c =
    let read : IsRead c.args.stanza.now (Some c.in-Some.change) = subst (IsRead c.args.stanza.now) c.in-Some.is c.in_ok-change.ensures in
    record {
      ok = next_put c.put.result c.args.self.now.changes c.put.new.self.changes c.args.stanza.now c.in-Some.change c.put.new.self.targets c.put.new.self.last read.1 c.put.ensures.ok c.put.ensures.stands;
      part = on_ok_weaker c.put.result (λ p. whole_part _ c.put.new.self.changes c.put.new.self.targets c.put.new.self.last p) c.put.ensures.ok;
      err = subst (λ (s : List LineText). IfErr c.put.result (λ e. IsFault c.args.self.now.changes s e)) (sym read.1) c.put.ensures.err;
    }

pub returns-in-None : goal.returns-in-None
returns-in-None c = record { ok = tt; part = tt; err = (subst (IsRead c.args.stanza.now) c.in_default.is c.in_ok-change.ensures, c.in-None.ensures) }

pub put-requires : goal.put-requires
put-requires c =
    let read : IsRead c.args.stanza.now (Some c.in-Some.change) = subst (IsRead c.args.stanza.now) c.in-Some.is c.in_ok-change.ensures in
    record { part = c.requires; lawful = read.0 }
