use Rattle.fab_reading.proofs.Rules.{here_at, here_end}
use Rattle.fab_bundle.proofs.PostRules.{begins_bytes, bytes_begin, bytes_read, bytes_text, no_bytes_begin}
use Rattle.fab_bundle.proofs.posts.bytes.Goals as goal

pub returns-in-None : goal.returns-in-None
returns-in-None c = here_end begins_bytes bytes_begin bytes_text c.in-None.ensures

pub returns-in_ok-bytes-in-Bytes : goal.returns-in_ok-bytes-in-Bytes
returns-in_ok-bytes-in-Bytes c =
    bytes_read c.in-Some.ensures (rw (c.in_ok-bytes-in-Bytes.ensures, c.as_slice.ensures) c.in-Bytes.is)

pub returns-in_default : goal.returns-in_default
returns-in_default c =
    here_at begins_bytes bytes_begin bytes_text c.in-Some.ensures (no_bytes_begin c.in-Some.token.now.kind c.in_default.not-Bytes)
