-- What the calls answer to a query.
use Rattle.std.specs.Prelude.{◌≡◌, List, Some, None, Result, Ok, Err, ⊤}
use Rattle.mtn_base.specs.declared.id.Id.{Id}
use Rattle.mtn_answers.specs.Queries.{IsAnswer, first_unknown, ids_of}
use Rattle.mtn_answers.specs.declared.query.Query.{Query}
use Rattle.mtn_history_laws.specs.History.{Revision}
use Rattle.mtn_graph_queries.specs.declared.query.QueryError.{QueryError}
use Rattle.mtn_graph_queries.specs.declared.query.QueryError.TheVariants.{Unknown, NoMemory}

-- the error names the first of these that the history does not have
abbrev pub NamesUnknown : List Revision → List Id → QueryError → Type 0
NamesUnknown h ids (Unknown id) = first_unknown h ids ≡ Some id
NamesUnknown h ids NoMemory = ⊤

-- the answer, where all ids are known, or the first that is not
abbrev pub AnswersQuery : List Revision → Query → Result (List Id) QueryError → Type 0
AnswersQuery h q (Ok ids) = (first_unknown h (ids_of q) ≡ None) × IsAnswer h q ids
AnswersQuery h q (Err e) = NamesUnknown h (ids_of q) e
