-- Which texts are keywords.
use Rattle.bsv_lex.proofs.Keywords.{keyword_is}

pub ruleset keywords = (keyword_is)
