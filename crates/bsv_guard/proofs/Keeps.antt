-- A sound scheme keeps the laws of one element.
use Rattle.bsv_design.specs.scheme.Schemes.{Scheme, calls}
use Rattle.bsv_design.specs.scheme.Serial.{by_rank}
use Rattle.bsv_guard.specs.Sound.{IsSound}
use Rattle.bsv_guard.specs.ElementLaws.{ElementLaws}
use Rattle.bsv_guard.proofs.Alike.{alike}
use Rattle.bsv_guard.proofs.Extends.{extends, local}
use Rattle.bsv_guard.proofs.Lists.{pair_at}
use Rattle.bsv_guard.proofs.Made.{StandBeside, beside-turned, pairs_beside, beside, open_calls, within, none_made}
use Rattle.bsv_guard.proofs.Ranks.{ranked, pairs_by_rank, ranked_precedes, by_rank_of_kind}

pub sound_keeps : (S : Scheme) → IsSound S → ElementLaws S
sound_keeps S ok = record {
  extends = λ g q n a b. extends S ok q n g a b;
  local = λ g q n a b. local S ok q n g a b;
  open_calls = λ g q n a. open_calls S ok q n g a;
  within = λ q n a. within S ok q n a;
  none_made = λ n o e v q a. none_made S ok q n o e v a;
  beside = λ n keeps q a. beside S ok q n keeps a;
  ranked = λ q n a. ranked S.kinds (calls S q n a);
  in_order = λ n keeps q a i j c d l e f.
      ranked_precedes S.kinds c d
      (pair_at (StandBeside S.kinds) (by_rank S.kinds (calls S q n a)) (pairs_by_rank S.kinds (StandBeside S.kinds) (beside-turned S.kinds) (calls S q n a) (pairs_beside S ok q n keeps a)) i j c d l e f)
      ((ranked S.kinds (calls S q n a)).ranks i j c d l e f);
  on_part = λ n keeps q a i j c d kind l e f.
      by_rank_of_kind S.kinds kind c d
      (pair_at (StandBeside S.kinds) (by_rank S.kinds (calls S q n a)) (pairs_by_rank S.kinds (StandBeside S.kinds) (beside-turned S.kinds) (calls S q n a) (pairs_beside S ok q n keeps a)) i j c d l e f)
      ((ranked S.kinds (calls S q n a)).ranks i j c d l e f);
  alike = λ T al. alike S T al;
}
