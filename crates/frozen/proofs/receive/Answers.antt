-- `frozen::receive`: room is made, and what is read lies behind the bytes at hand.
-- Assumes nothing.
use Rattle.std.proofs.Common.{◌≡◌, length, ap, arith}
use Rattle.frozen.specs.declared.desk.Desk.{Desk}
use Rattle.frozen.specs.Desk.{buffer_bytes}
use Rattle.frozen.proofs.DeskLaws.{room_there, received}
use Rattle.frozen.proofs.receive.Goals as goal

pub fill-n-requires : goal.fill-n-requires
fill-n-requires g c = let all : length c.args.buf.now ≡ buffer_bytes = omega arith in
    let there = room_there c.args.desk c.args.buf.now c.requires.0 c.requires.1 all in
    let same = ap (λ (d : Desk). d.end) c.make_room-moved.ensures.0 in
    omega (arith, there, same, c.make_room-moved.auto.buf, all)

pub returns : goal.returns
returns g c = let m = c.make_room-moved in
    let f = c.fill-n in
    received c.args.desk c.args.buf.now c.requires.0 m.result m.new.buf m.ensures.0 m.ensures.1 f.new.buf f.ensures.place.1 f.auto.buf
    f.result f.ensures.place.0 c.took.result c.took.ensures
