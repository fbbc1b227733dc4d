use Rattle.frames.proofs.words.+mend_words.Given as goal

abbrev pub decreases-mend_words : goal.decreases-mend_words
decreases-mend_words g l = l.count
