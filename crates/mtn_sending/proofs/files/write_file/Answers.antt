use Rattle.std.proofs.Common.{Err, ap, ◌∙◌}
use Rattle.std.proofs.lemmas.Result.{err_from_is_err_and}
use Rattle.mtn_sending.proofs.Erring.{gives_err}
use Rattle.mtn_sending.proofs.Packets.{file_written}
use Rattle.mtn_sending.proofs.files.write_file.Goals as goal

pub returns-in_err-read_file-clause-found : goal.returns-in_err-read_file-clause-found
returns-in_err-read_file-clause-found g c = λ f s d held at.
    let p = err_from_is_err_and c.from_residual.result c.from_residual.ensures.1 in
    gives_err c.from_residual.result c.in_err-read_file.field-0.0 _ (p.1 ∙ ap Err p.2) (c.in_err-read_file.ensures.found f s d held at)

pub returns-clause-found : goal.returns-clause-found
returns-clause-found g c = λ f s d held at.
    file_written s c.args.id.now c.args.out.now.items c.write.new.out.items c.from_vec.result c.read_file.new.bytes.items held c.in_ok-write.ensures.ok c.from_vec.ensures (c.in_ok-read_file.ensures.found f s d held at) at
