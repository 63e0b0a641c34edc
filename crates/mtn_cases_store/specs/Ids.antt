-- The ids of a session.
use Rattle.std.specs.Prelude.{ℕ, List}
use Rattle.mtn_ports.specs.Ident.{MakesIds, toy}
use Rattle.mtn_ports.specs.Ids.{sha1_makes_ids, toy_makes_ids}
use Rattle.sha1.specs.Sha1.{sha1}
use Rattle.mtn_cases_store.specs.declared.ids.Ids.{Ids}
use Rattle.mtn_cases_store.specs.declared.ids.Kind.{Kind}
use Rattle.mtn_cases_store.specs.declared.ids.Kind.TheVariants.{Sha1, Toys}

abbrev pub kind_meaning : Kind → List ℕ → List ℕ
kind_meaning Sha1 = sha1
kind_meaning Toys = toy

pub kind_makes_ids : (kind : Kind) → MakesIds (kind_meaning kind)
kind_makes_ids Sha1 = sha1_makes_ids
kind_makes_ids Toys = toy_makes_ids

abbrev pub meaning_of : Ids → List ℕ → List ℕ
meaning_of ids = kind_meaning ids.kind

pub makes_ids_of : (ids : Ids) → MakesIds (meaning_of ids)
makes_ids_of ids = kind_makes_ids ids.kind
