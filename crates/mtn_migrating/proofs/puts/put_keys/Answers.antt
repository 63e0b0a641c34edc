use Rattle.std.specs.List.{AllByRecursion}
use Rattle.std.proofs.Common.{◌≡◌, ◌+◌, [], ◌∷◌, ◌++◌, append_assoc, take, sym, ap, ◌∙◌, subst}
use Rattle.std.proofs.lemmas.List.{take_more}
use Rattle.mtn_certs.specs.Certificates.{IsIdBytes}
use Rattle.mtn_certs.specs.declared.cert.KeyName.{KeyName}
use Rattle.mtn_history.specs.Records.{put_of}
use Rattle.mtn_old_stores.specs.Migrating.{key_puts}
use Rattle.mtn_migrating.proofs.Adding.{keys_more, one_more}
use Rattle.mtn_migrating.proofs.puts.put_keys.Goals as goal

pub loop-key-preserved : goal.loop-key-preserved
loop-key-preserved c =
    let table = c.args.table.now in
    let i = c.loop-key.key-index in
    let key = c.key-item.result in
    let base = c.args.batch.now in
    let over : take (i + 1) table ≡ take i table ++ key ∷ [] = take_more table i key c.loop-key-test.true ∙ ap (λ (x : KeyName). take i table ++ x ∷ []) (sym c.key-item.is) in
    record {
      puts =
          c.in_ok-put.ensures.ok
          ∙ (λ n. c.loop-key.invariant.puts n ++ put_of 7 (c.as_slice.ensures.value n) (c.as_slice-in-loop-key.ensures n) ∷ [])
          ∙ append_assoc base (key_puts (take i table)) (put_of 7 key.id.0 key.name ∷ [])
          ∙ ap (λ l. base ++ l) (sym (keys_more (take i table) key) ∙ ap key_puts (sym over));
      ids = subst (AllByRecursion (λ (k : KeyName). IsIdBytes k.id.0)) (sym over)
          (one_more (λ (k : KeyName). IsIdBytes k.id.0) (take i table) key c.loop-key.invariant.ids (record { twenty = c.as_slice.ensures.count; bytes = c.as_slice.ensures.bytes }));
    }
