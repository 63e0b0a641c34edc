use Rattle.std.specs.Option.{option_copied}
use Rattle.std.proofs.Common.{[], ◌∷◌, ◌++◌, ap, ◌∙◌, subst}
use Rattle.mtn_history.specs.Meta.{version, version_key}
use Rattle.mtn_history.specs.Records.{put_of}
use Rattle.mtn_old_stores.specs.Stores.{IsLeastUnknown}
use Rattle.mtn_migrating.proofs.Ending.{whole}
use Rattle.mtn_migrating.proofs.migrating.migrated.Goals as goal

pub returns-clause-makes : goal.returns-clause-makes
returns-clause-makes c =
    let table = c.args.table.now in
    let certs = c.args.certs.now in
    record {
      known = subst (λ o. IsLeastUnknown table certs (option_copied o)) c.in_default.is (c.in_ok-name.ensures.unknown table c.in_ok-ids.ensures);
      ids = c.in_ok-put_keys.ensures.ids;
      puts = whole table certs c.put.new.self c.put_certs.new.batch c.put_keys.new.batch (c.in_ok-put.ensures.ok ∙ ap (λ l. l ++ put_of 1 version_key version ∷ []) c.new-batch.ensures)
          (c.in_ok-name.ensures.puts table c.in_ok-ids.ensures) c.in_ok-put_keys.ensures.puts;
      text = c.in_ok-text.ensures;
    }
