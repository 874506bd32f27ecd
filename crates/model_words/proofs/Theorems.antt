-- All of it together.
use Rattle.std.proofs.Common.{ℕ}
use Rattle.model_words.specs.Theorems.{Keeps, WordsKeep}
use Rattle.model_words.proofs.Keep.{keeps, old_rises}
use Rattle.model_words.proofs.Owners.{owner, owner_one, owned, free, alone}
use Rattle.model_words.proofs.Rely.{keeps_run, later_run, lasting, rely_run, held_old}
use Rattle.model_words.proofs.Release.{release, released, nothing}
use Rattle.model_words.proofs.Places.{places, places_turn, places_release}
use Rattle.model_words.proofs.Contents.{still}
use Rattle.model_words.proofs.Heavy.{heavy_run}
use Rattle.model_words.proofs.Reached.{reached}
use Rattle.model_words.proofs.Able.{able, drawn}

keeps_all : (limit : ℕ) → Keeps limit
keeps_all limit = record {
  effect = λ i x S T a ok. keeps a ok;
  run = λ S T r ok. keeps_run r ok;
  later = λ S T r y. later_run r y;
  lasting = λ S T r h o s. lasting (S.words h.at) (T.words h.at) h.grip (later_run r h.at) o s;
  refused = λ S T r ok i h l m n s. n (lasting (S.words h.at) (T.words h.at) h.grip (later_run r h.at) (held_old S ok i h l m) s);
  between = λ S M T r q ok i h l m s. lasting (M.words h.at) (T.words h.at) h.grip (later_run q h.at)
      (old_rises (S.words h.at) (M.words h.at) h.grip (later_run r h.at).rises (held_old S ok i h l m)) s;
  rely = λ i S T l r ok. rely_run i l r ok;
  owner = λ S i h ok l m e. owner S ok i h l m e;
  owner_one = λ S i j h k ok li lj m n e p q. owner_one S ok i j h k li lj m n e p q;
  owned = λ S x ok e. owned S ok x e;
  release = release limit;
  released = released limit;
  nothing = nothing;
  free = λ S x ok n. free S ok x n;
  alone = λ S i ok h x n. alone S ok i h x n;
  heavy = λ S T r ok h. heavy_run r ok h;
  places = λ st i x S T a p ok. places st a p ok;
  places_turn = places_turn;
  drawn = λ S T x ok n e. drawn S T x ok n e;
  places_release = λ st i S T r n ok. places_release st i S T r n ok;
}

pub words_keep_lem : WordsKeep
words_keep_lem limit = (keeps_all limit, still limit, able limit, λ n S c. reached c)
