use Rattle.std.specs.Option.{option_copied}
use Rattle.std.proofs.Common.{◌≡◌, ◌+◌, [], ◌∷◌, ◌++◌, take, sym, ap, ◌∙◌, subst, arith}
use Rattle.std.proofs.lemmas.List.{take_all, take_more}
use Rattle.mtn_old_stores.specs.Older.{OldCertificate}
use Rattle.mtn_old_stores.specs.Migrating.{cert_puts, under_ids}
use Rattle.mtn_old_stores.specs.Stores.{IsLeastUnknown}
use Rattle.mtn_migrating.proofs.Adding.{added_puts, added_unknown}
use Rattle.mtn_migrating.proofs.puts.put_certs.Goals as goal

pub loop-cert-preserved : goal.loop-cert-preserved
loop-cert-preserved c =
    let certs = c.args.certs.now in
    let i = c.loop-cert.cert-index in
    let x = c.cert-item.result in
    let before = option_copied c.loop-cert.unknown in
    let after = option_copied c.in_ok-unknown.unknown in
    let over : take (i + 1) certs ≡ take i certs ++ x ∷ [] = take_more certs i x c.loop-cert-test.true ∙ ap (λ (q : OldCertificate). take i certs ++ q ∷ []) (sym c.cert-item.is) in
    record {
      puts = λ table are. subst (λ l. c.add.new.batch ≡ c.args.batch.now ++ cert_puts (under_ids table l)) (sym over)
          (added_puts table (take i certs) x before after c.args.batch.now c.loop-cert.batch c.add.new.batch (c.in_ok-unknown.ensures table are) (c.loop-cert.invariant.puts table are));
      unknown = λ table are. subst (λ l. IsLeastUnknown table l after) (sym over)
          (added_unknown table (take i certs) x before after c.args.batch.now c.loop-cert.batch c.add.new.batch (c.in_ok-unknown.ensures table are) (c.loop-cert.invariant.unknown table are));
    }

pub returns-clause-puts : goal.returns-clause-puts
returns-clause-puts c = λ table are. c.loop-cert.invariant.puts table are ∙ ap (λ l. c.args.batch.now ++ cert_puts (under_ids table l)) (take_all c.loop-cert.cert-index c.args.certs.now (omega (arith, c.loop-cert-test.false)))

pub returns-clause-unknown : goal.returns-clause-unknown
returns-clause-unknown c = λ table are. subst (λ l. IsLeastUnknown table l (option_copied c.loop-cert.unknown)) (take_all c.loop-cert.cert-index c.args.certs.now (omega (arith, c.loop-cert-test.false))) (c.loop-cert.invariant.unknown table are)
