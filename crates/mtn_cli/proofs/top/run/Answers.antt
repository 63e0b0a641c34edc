use Rattle.mtn_frame.specs.Script.{is_session}
use Rattle.mtn_cli.proofs.OldLemmas.{old_stores_migrate}
use Rattle.mtn_cli.proofs.SoundLemmas.{checks_are_sound}
use Rattle.mtn_cli.proofs.RunLemmas.{few_present, heads_merges_are_decided, merges_are_decided, order_free, stays_lawful}
use Rattle.mtn_cli.proofs.top.run.Goals as goal

pub returns : goal.returns
returns g c =
    let all = c.run_words.ensures in
    let ids = (g.met.I.Ident g.world.𝓛 g.world.𝓜 g.world.𝓡 ((λ s x. x), (λ x. x), (λ x. x), λ x. x)).makes_ids c.args.ident.now in
    record {
      meets = all.meets;
      same = all.same;
      written = all.written;
      damage = all.damage;
      lawful = stays_lawful (g.I.Ident.meaning c.args.ident.now) (g.K.Keeper.contents c.args.keeper.now) (g.K.Keeper.contents c.run_words.new.keeper) all.lawful;
      causes = all.causes;
      complete = all.complete;
      crash = all.crash;
      few_reads = few_present (g.I.Ident.meaning c.args.ident.now) c.args.words.now (is_session c.args.words.now) (record { contents = g.K.Keeper.contents c.args.keeper.now; left = g.S.Source.left c.args.source.now; written = g.O.Sink.written c.args.sink.now }) (record { contents = g.K.Keeper.contents c.run_words.new.keeper; left = g.S.Source.left c.run_words.new.source; written = g.O.Sink.written c.run_words.new.sink }) (record { keeper = g.K.Keeper.faults c.args.keeper.now; source = g.S.Source.faults c.args.source.now; sink = g.O.Sink.faults c.args.sink.now; reads = g.K.Keeper.reads c.args.keeper.now }) (record { keeper = g.K.Keeper.faults c.run_words.new.keeper; source = g.S.Source.faults c.run_words.new.source; sink = g.O.Sink.faults c.run_words.new.sink; reads = g.K.Keeper.reads c.run_words.new.keeper }) all.few_reads;
      vouches = all.vouches;
      checks = checks_are_sound (g.I.Ident.meaning c.args.ident.now) c.args.words.now (record { contents = g.K.Keeper.contents c.args.keeper.now; left = g.S.Source.left c.args.source.now; written = g.O.Sink.written c.args.sink.now })
          (record { contents = g.K.Keeper.contents c.run_words.new.keeper; left = g.S.Source.left c.run_words.new.source; written = g.O.Sink.written c.run_words.new.sink }) c.run_words.result all.vouches;
      order_free = order_free (g.I.Ident.meaning c.args.ident.now) c.args.words.now ids;
      merges = merges_are_decided (g.I.Ident.meaning c.args.ident.now) c.args.words.now _ _ c.run_words.result ids all.meets;
      merges_heads = heads_merges_are_decided (g.I.Ident.meaning c.args.ident.now) c.args.words.now _ _ c.run_words.result ids all.meets;
      migrates = old_stores_migrate c.one_migration.ensures (g.I.Ident.meaning c.args.ident.now) c.args.words.now _ _ c.run_words.result all.meets all.same all.changes;
    }
