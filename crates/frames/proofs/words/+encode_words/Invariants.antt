use Rattle.frames.proofs.words.+encode_words.Given as goal

abbrev pub decreases-encode_words : goal.decreases-encode_words
decreases-encode_words g l = l.count
