use Rattle.std.proofs.Common.{ℕ, List, subst}
use Rattle.memchr.specs.Find.{OccursAt}
use Rattle.mtn_packets.proofs.Steps.{cut}
use Rattle.mtn_pieces.proofs.Cuts.{cut_behind}
use Rattle.mtn_pieces.proofs.packets.behind_end.Goals as goal

pub returns : goal.returns
returns c =
    let text = c.args.text.now in
    cut_behind text c.args.from c.in_ok-place.place c.requires (subst (λ (t : List ℕ). OccursAt (cut c.args.from text) t c.in_ok-place.place) c.as_slice.ensures c.in_ok-place.ensures.1)
