use Rattle.std.proofs.Common.{◌∙◌, arith}
use Rattle.dyn_message.proofs.Growing.{room_fits}
use Rattle.dyn_message.proofs.ListLaws.{place_lives}
use Rattle.dyn_message.proofs.rooms.append_element.Goals as goal

pub write-requires-clause-fits : goal.write-requires-clause-fits
write-requires-clause-fits g c = room_fits _ _ _ _ _ _ c.in_ok-array.ensures.made

pub returns-clause-grows : goal.returns-clause-grows
returns-clause-grows g c =
    let grows = c.in_ok-array.ensures.grows in
    record {
      key = c.write-2.ensures.key ∙ (c.write.ensures.key ∙ grows.key);
      still_live = λ q live. c.write-2.ensures.still_live q (c.write.ensures.still_live q (place_lives _ _ grows.rest q live));
      buffers = c.write-2.ensures.buffers ∙ (c.write.ensures.buffers ∙ c.in_ok-array.ensures.buffers);
      no_fewer = omega (arith, c.write-2.ensures.count, c.write.ensures.count, grows.no_fewer_places);
      few = omega (arith, c.write-2.ensures.count, c.write.ensures.count, grows.few_places);
      no_fewer_blocks = λ region. omega (arith, c.write-2.ensures.blocks region, c.write.ensures.blocks region, grows.no_fewer_blocks region);
      few_blocks = λ region. omega (arith, c.write-2.ensures.blocks region, c.write.ensures.blocks region, grows.few_blocks region);
    }
