-- Seven kinds are all.
use Rattle.std.proofs.Common.{◌≡◌, List, Option, Some, None, refl}
use Rattle.mtn_basic_io.specs.Spelling.{LineText}
use Rattle.mtn_changes.specs.declared.change.Change.{Change}
use Rattle.mtn_changes.specs.declared.change.Change.TheVariants.{Delete, Rename, AddDir, AddFile, Patch, Clear, Set}
use Rattle.mtn_changes.specs.Changes.{IsChange}
use Rattle.mtn_changes.specs.Stanzas.{stanza_of, IsRead, IsReadOf}

-- none of the seven
pub no_kind : (s : List LineText) (last : Option Change) → IsReadOf 1 s None → IsReadOf 2 s None → IsReadOf 3 s None → IsReadOf 4 s None → IsReadOf 5 s None → IsReadOf 6 s None
    → IsReadOf 7 s last → IsRead s last
no_kind s (Some c) k1 k2 k3 k4 k5 k6 k7 = k7
no_kind s None k1 k2 k3 k4 k5 k6 k7 = at where
  at : (c : Change) → IsChange c → s ≡ stanza_of c → ⊥
  at (Delete path) is e = k1 (Delete path) refl is e
  at (Rename path to) is e = k2 (Rename path to) refl is e
  at (AddDir path) is e = k3 (AddDir path) refl is e
  at (AddFile path content) is e = k4 (AddFile path content) refl is e
  at (Patch path from to) is e = k5 (Patch path from to) refl is e
  at (Clear path key) is e = k6 (Clear path key) refl is e
  at (Set path key value) is e = k7 (Set path key value) refl is e
