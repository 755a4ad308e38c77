use Rattle.cfa_schema.proofs.WordLemmas.{words_lack_newlines, names_are_words, params_are_words}
use Rattle.cfa_schema.proofs.laws.names_are_words.Goals as goal

pub returns-clause-one_line : goal.returns-clause-one_line
returns-clause-one_line c = words_lack_newlines

pub returns-clause-names : goal.returns-clause-names
returns-clause-names c = names_are_words

pub returns-clause-params : goal.returns-clause-params
returns-clause-params c = params_are_words
