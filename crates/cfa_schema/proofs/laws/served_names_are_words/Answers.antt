use Rattle.cfa_schema.proofs.WordLemmas.{named_bundle_is_word, common_names_are_words, sequence_names_are_words}
use Rattle.cfa_schema.proofs.laws.served_names_are_words.Goals as goal

pub returns-clause-named : goal.returns-clause-named
returns-clause-named c = named_bundle_is_word

pub returns-clause-common : goal.returns-clause-common
returns-clause-common c = common_names_are_words

pub returns-clause-sequence : goal.returns-clause-sequence
returns-clause-sequence c = sequence_names_are_words
