use Rattle.std.proofs.Common.{sym, ap, ◌∙◌, subst}
use Rattle.mtn_history.specs.declared.pending.Pending.{Pending}
use Rattle.mtn_history.specs.Stands.{IsDraft}
use Rattle.mtn_base.specs.declared.refusal.Cause.TheVariants.{UnknownRevision}
use Rattle.mtn_step.specs.Step.{done, found}
use Rattle.mtn_commands.proofs.get_revision.get_revision.Goals as goal

pub returns-clause-drafts : goal.returns-clause-drafts
returns-clause-drafts g c =
    let f = g.I.Ident.meaning c.args.ident.now in
    record {
      stays = c.in_ok-text_of.ensures.asks.stays;
      done = λ k s told draft. (
        s,
        ap (done s) c.from_vec.ensures ∙ sym (ap (found (UnknownRevision c.args.id) s) (c.in_ok-text_of.ensures.finds f k s told draft)),
        subst (λ (p : Pending). IsDraft f k p s) (sym c.in_ok-text_of.ensures.asks.pending) draft,
      );
      reason = λ counted. tt;
    }
