-- The law of proofs/Places.
use Rattle.pb_schema.proofs.Places.{places_of_varint, varint_of_places}
use Rattle.pb_schema.proofs.laws.varint_by_places.Goals as goal

pub returns : goal.returns
returns c = λ s most v. (places_of_varint s most v, varint_of_places s most v)
