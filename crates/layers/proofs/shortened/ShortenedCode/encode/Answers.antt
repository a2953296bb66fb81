use Rattle.layers.proofs.ShortenedCalls.{shorter_encoded}
use Rattle.layers.proofs.shortened.ShortenedCode.encode.Goals as goal

pub returns : goal.returns
returns g c =
    let self = c.args.self.now in
    let shape = c.in_ok-shape in
    shorter_encoded (g.met.C.Code.lawful self.below) self.by shape.shape shape.ensures c.args.message c.encode.result
    c.if-not-fits_in.ensures c.encode.ensures
