mod MissingLemmas
