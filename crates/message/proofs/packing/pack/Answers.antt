use Rattle.message.proofs.Trips.{written}
use Rattle.message.proofs.packing.pack.Goals as goal

pub returns : goal.returns
returns c =
    let enc = c.in_ok-message.ensures in
    let p = written c.args.event.now enc.0 c.in_ok-message.message enc.1 c.args.out.now c.write_front.new.out c.write_front.result c.write_front.ensures in
    record { packs = p.0; reads = p.1 }
