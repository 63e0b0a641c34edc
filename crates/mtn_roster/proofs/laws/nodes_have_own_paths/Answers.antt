use Rattle.std.proofs.Common.{◌≡◌, sym, ◌∙◌, ap}
use Rattle.mtn_roster.specs.declared.entry.Entry.{Entry}
use Rattle.mtn_roster.specs.Tree.{node_at}
use Rattle.mtn_roster.proofs.Forest.{name_of, same_some}
use Rattle.mtn_roster.proofs.Ordered.{forest_of}
use Rattle.mtn_roster.proofs.Pathing.{path_leads}
use Rattle.mtn_roster.proofs.laws.nodes_have_own_paths.Goals as goal

pub returns : goal.returns
returns c = λ t n m e f s p q h.
    let same : e ≡ f = same_some (path_leads t (forest_of t s) n e p) (ap (node_at t) h ∙ path_leads t (forest_of t s) m f q) in
    sym (name_of t n e p) ∙ ap (λ (x : Entry). x.name) same ∙ name_of t m f q
