use Rattle.std.proofs.Common.{◌≡◌, ◌∷◌, ◌++◌, take, map}
use Rattle.mtn_base.specs.Paths.{path_text}
use Rattle.mtn_base.specs.Front.{IsFront}
use Rattle.mtn_basic_io.specs.Spelling.{spelling}
use Rattle.mtn_manifest.specs.Manifest.{head_stanza, kept_at}
use Rattle.mtn_roster.specs.declared.entry.Entry.{Entry}
use Rattle.mtn_roster.specs.Tree.{path_of}
use Rattle.mtn_roster.specs.Walk.{by_path}
use Rattle.mtn_roster_text.specs.Naming.{ids_in}
use Rattle.mtn_roster_text.specs.RosterText.{marked_stanza}
use Rattle.mtn_roster_text.proofs.walk.write_all.Given as goal

abbrev pub invariant-loop-stop : goal.invariant-loop-stop
invariant-loop-stop l =
    (l.kept.items ≡ map (λ (e : Entry). kept_at (path_text (path_of l.tree e)) e) (take l.stop-index (by_path l.tree)))
    × (l.out.items ≡ l.fn.out.items ++ spelling (head_stanza ∷ map (λ (e : Entry). marked_stanza (ids_in l.table l.marks) (path_text (path_of l.tree e)) e) (take l.stop-index (by_path l.tree))))
    × IsFront l.fn.out.items l.out.items
