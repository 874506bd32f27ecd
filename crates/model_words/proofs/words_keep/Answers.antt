use Rattle.model_words.proofs.words_keep.Goals as goal
use Rattle.model_words.proofs.Theorems.{words_keep_lem}

pub returns : goal.returns
returns c = words_keep_lem
