use Rattle.std.proofs.Common.{refl}
use Rattle.model_next.specs.Look.{least, smallest, past, key_sight, back_sight, down_sight}
use Rattle.model_next.specs.Examples.{Sights}

pub sights_stand : Sights
unfolding least smallest past key_sight back_sight down_sight
sights_stand = record { a = refl; b = refl; c = refl; d = refl; e = refl; f = refl; g = refl; h = refl; i = refl; j = refl }
