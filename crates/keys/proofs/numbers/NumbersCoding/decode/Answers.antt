use Rattle.std.proofs.Common.{◌≡◌, length, arith, w32, rules}
use Rattle.std.proofs.lemmas.Int.{to_z-of_z}
use Rattle.keys.specs.NumberLaws.{read_back}
use Rattle.keys.proofs.numbers.NumbersCoding.decode.Goals as goal

pub returns : goal.returns
returns c =
    let l : length c.args.coded.now ≡ 4 = search rules in
    rw (to_z-of_z w32 c.cast_signed.result (record { sfits = c.cast_signed.type_inv }))
    (read_back c.args.coded.now c.from_be_bytes.result c.cast_signed.result l (λ i. omega (arith, c.type_inv.coded i)) c.from_be_bytes.ensures c.cast_signed.type_inv c.cast_signed.ensures)
