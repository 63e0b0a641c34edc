use Rattle.std.proofs.Common.{◌≡◌, ◌∙◌, ℕ, List, true, None, sym, subst}
use Rattle.mtn_certs.specs.Certificates.{is_field}
use Rattle.mtn_history.specs.Stands.{IsDraft}
use Rattle.mtn_replay.specs.Certificates.{other_name, with_key}
use Rattle.mtn_commands.proofs.CertsLemmas.{keyed}
use Rattle.mtn_commands.proofs.key.key.Goals as goal

pub returns-clause-drafts : goal.returns-clause-drafts
returns-clause-drafts g c =
    let f = g.I.Ident.meaning c.args.ident.now in
    let id = c.args.id in
    let name = c.args.name.now in
    record {
      stays = c.in_ok-put_key.ensures.stays;
      done = λ k s told draft.
          let accepted = c.in_ok-put_key.ensures.accepts f k s told draft in
          let field = subst (λ (n : List ℕ). is_field n ≡ true) c.as_slice.ensures (sym c.is_field.ensures ∙ c.if-not-is_field.false) in (
            with_key s id name,
            keyed s id name c.new.result field (subst (λ (n : List ℕ). other_name s id n ≡ None) c.as_slice-2.ensures accepted.0) c.new.ensures,
            subst (λ (n : List ℕ). IsDraft f k c.put_key.new.draft.pending (with_key s id n)) c.as_slice-2.ensures accepted.1,
          );
      reason = λ counted. tt;
    }
