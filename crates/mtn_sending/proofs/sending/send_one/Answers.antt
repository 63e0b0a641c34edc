use Rattle.std.proofs.Common.{Err, [], ◌++◌, map, sym, ap, ◌∙◌, subst}
use Rattle.std.proofs.lemmas.Result.{err_from_is_err_and}
use Rattle.mtn_exports.proofs.Contents.{has_text, text_spells}
use Rattle.mtn_history.proofs.Founding.{back}
use Rattle.mtn_ports.proofs.KeptLemmas.{stays_trans}
use Rattle.mtn_replay.specs.Lawful.{Spells}
use Rattle.mtn_sending.proofs.Erring.{earlier, gives_err, gives_more}
use Rattle.mtn_exports.specs.Exports.{file_packet, packets_text}
use Rattle.mtn_replay.specs.Making.{new_contents}
use Rattle.mtn_sending.specs.Sending.{Adds, AreHeld, WritesCerts, WritesOne}
use Rattle.mtn_sending.proofs.One.{files_held, new_of, one_written, read_under}
use Rattle.mtn_sending.proofs.sending.send_one.Goals as goal

pub returns-in_err-read_text-clause-found : goal.returns-in_err-read_text-clause-found
returns-in_err-read_text-clause-found g c = λ f s d held before set.
    let p = err_from_is_err_and c.from_residual.result c.from_residual.ensures.1 in
    let t = has_text f s.files s.log d.stands.history d.stands.spelled c.args.id held in
    gives_err c.from_residual.result c.in_err-read_text.field-0.0 _ (p.1 ∙ ap Err p.2) (c.in_err-read_text.ensures.found f s d t.0 t.1)

pub returns-in_err-revision-clause-stays : goal.returns-in_err-revision-clause-stays
returns-in_err-revision-clause-stays g c = stays_trans g.K.Keeper.contents g.K.Keeper.leaves g.K.Keeper.faults _ _ _ c.read_text.ensures.stays c.spelled.ensures.stays

pub returns-in_err-revision-clause-found : goal.returns-in_err-revision-clause-found
returns-in_err-revision-clause-found g c = λ f s d held before set.
    let p = err_from_is_err_and c.from_residual-in_err-revision.result c.from_residual-in_err-revision.ensures.1 in
    let told = g.K.Keeper.contents c.read_text.new.draft.keeper.now in
    let d0 = back f told (g.K.Keeper.contents c.spelled.new.draft.keeper.now) c.args.draft.now.pending s c.spelled.ensures.stays.same d in
    let text = c.read_text.new.text.items in
    let under = read_under f told c.args.draft.now.pending s d0 c.args.id held text (λ t u. c.in_ok-read_text.ensures.found f s d0 t u) in
    let r = text_spells f s.files s.log d.stands.history d.stands.spelled c.args.id.0 text under in
    gives_err c.from_residual-in_err-revision.result c.in_err-revision.field-0.0 _ (p.1 ∙ ap Err p.2) (c.in_err-revision.ensures.sound r.0 (subst (λ t. Spells t r.0) (sym c.deref.ensures.value) r.1))

pub returns-in_err-files-clause-stays : goal.returns-in_err-files-clause-stays
returns-in_err-files-clause-stays g c = stays_trans g.K.Keeper.contents g.K.Keeper.leaves g.K.Keeper.faults _ _ _ c.read_text.ensures.stays c.spelled.ensures.stays

pub returns-in_err-write_files-clause-stays : goal.returns-in_err-write_files-clause-stays
returns-in_err-write_files-clause-stays g c =
    stays_trans g.K.Keeper.contents g.K.Keeper.leaves g.K.Keeper.faults _ _ _ (stays_trans g.K.Keeper.contents g.K.Keeper.leaves g.K.Keeper.faults _ _ _ c.read_text.ensures.stays c.spelled.ensures.stays) c.write_files.ensures.stays

pub returns-in_err-write-clause-stays : goal.returns-in_err-write-clause-stays
returns-in_err-write-clause-stays g c =
    stays_trans g.K.Keeper.contents g.K.Keeper.leaves g.K.Keeper.faults _ _ _ (stays_trans g.K.Keeper.contents g.K.Keeper.leaves g.K.Keeper.faults _ _ _ c.read_text.ensures.stays c.spelled.ensures.stays) c.write_files.ensures.stays

pub returns-clause-stays : goal.returns-clause-stays
returns-clause-stays g c =
    stays_trans g.K.Keeper.contents g.K.Keeper.leaves g.K.Keeper.faults _ _ _
    (stays_trans g.K.Keeper.contents g.K.Keeper.leaves g.K.Keeper.faults _ _ _ (stays_trans g.K.Keeper.contents g.K.Keeper.leaves g.K.Keeper.faults _ _ _ c.read_text.ensures.stays c.spelled.ensures.stays) c.write_files.ensures.stays)
    c.write_certs.ensures.stays

pub returns-clause-found : goal.returns-clause-found
returns-clause-found g c = λ f s d held before set.
    let pending = c.args.draft.now.pending in
    let contents = g.K.Keeper.contents in
    let d2 = back f (contents c.write_files.new.draft.keeper.now) (contents c.write_certs.new.draft.keeper.now) pending s c.write_certs.ensures.stays.same d in
    let d1 = back f (contents c.spelled.new.draft.keeper.now) (contents c.write_files.new.draft.keeper.now) pending s c.write_files.ensures.stays.same d2 in
    let d0 = back f (contents c.read_text.new.draft.keeper.now) (contents c.spelled.new.draft.keeper.now) pending s c.spelled.ensures.stays.same d1 in
    let text = c.read_text.new.text.items in
    let under = read_under f (contents c.read_text.new.draft.keeper.now) pending s d0 c.args.id held text (λ t u. c.in_ok-read_text.ensures.found f s d0 t u) in
    let r = c.in_ok-revision.revision in
    let spells : Spells text r = subst (λ t. Spells t r) c.deref.ensures.value c.in_ok-revision.ensures.read in
    let files = c.in_ok-files.files.items in
    let adds = subst (λ es. Adds c.args.sent.now c.new_files.new.sent [] files (new_contents es)) c.as_slice.ensures c.in_ok-files.ensures in
    let new = new_of c.args.sent.now c.new_files.new.sent before files (new_contents r.edges) set adds in
    let are = files_held f s d.stands.history d.stands.spelled c.args.id text r under spells before files new in
    let told2 = contents c.write_files.new.draft.keeper.now in
    let told3 = contents c.write_certs.new.draft.keeper.now in
    let filed = c.in_ok-write_files.ensures.found f s (earlier f told2 told2 pending c.spelled.new.draft.pending s (λ k t. t) (c.in_ok-revision.ensures.pending ∙ c.in_ok-read_text.ensures.pending) d2) (subst (AreHeld s) (sym c.deref-2.ensures.value) are) in
    gives_more c.write_certs.result (λ _. WritesCerts s c.args.id c.write.new.out.items c.write_certs.new.out.items) (λ _. WritesOne s before c.args.id c.new_files.new.sent c.args.out.now.items c.write_certs.new.out.items)
    (λ x said. one_written s before c.args.id c.args.sent.now c.new_files.new.sent files text c.from_vec.result r c.args.out.now.items c.write_files.new.out.items c.write.new.out.items c.write_certs.new.out.items under spells c.from_vec.ensures set adds
    (filed ∙ ap (λ ids. c.args.out.now.items ++ packets_text (map (file_packet s) ids)) c.deref-2.ensures.value) c.in_ok-write.ensures.ok said)
    (c.write_certs.ensures.found f s (earlier f told3 told3 pending c.write_files.new.draft.pending s (λ k t. t) (c.in_ok-write_files.ensures.pending ∙ (c.in_ok-revision.ensures.pending ∙ c.in_ok-read_text.ensures.pending)) d))

pub returns-in_err-write_files-clause-found : goal.returns-in_err-write_files-clause-found
returns-in_err-write_files-clause-found g c = λ f s d held before set.
    let p = err_from_is_err_and c.from_residual-in_err-write_files.result c.from_residual-in_err-write_files.ensures.1 in
    let pending = c.args.draft.now.pending in
    let contents = g.K.Keeper.contents in
    let d1 = back f (contents c.spelled.new.draft.keeper.now) (contents c.write_files.new.draft.keeper.now) pending s c.write_files.ensures.stays.same d in
    let d0 = back f (contents c.read_text.new.draft.keeper.now) (contents c.spelled.new.draft.keeper.now) pending s c.spelled.ensures.stays.same d1 in
    let text = c.read_text.new.text.items in
    let under = read_under f (contents c.read_text.new.draft.keeper.now) pending s d0 c.args.id held text (λ t u. c.in_ok-read_text.ensures.found f s d0 t u) in
    let r = c.in_ok-revision.revision in
    let spells : Spells text r = subst (λ t. Spells t r) c.deref.ensures.value c.in_ok-revision.ensures.read in
    let files = c.in_ok-files.files.items in
    let adds = subst (λ es. Adds c.args.sent.now c.new_files.new.sent [] files (new_contents es)) c.as_slice.ensures c.in_ok-files.ensures in
    let new = new_of c.args.sent.now c.new_files.new.sent before files (new_contents r.edges) set adds in
    let are = files_held f s d.stands.history d.stands.spelled c.args.id text r under spells before files new in
    let told2 = contents c.write_files.new.draft.keeper.now in
    gives_err c.from_residual-in_err-write_files.result c.in_err-write_files.field-0.0 _ (p.1 ∙ ap Err p.2)
    (c.in_err-write_files.ensures.found f s (earlier f told2 told2 pending c.spelled.new.draft.pending s (λ k t. t) (c.in_ok-revision.ensures.pending ∙ c.in_ok-read_text.ensures.pending) d) (subst (AreHeld s) (sym c.deref-2.ensures.value) are))
