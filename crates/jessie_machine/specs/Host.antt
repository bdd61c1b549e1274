-- What the host is asked, and what it answers.
use Rattle.jessie_semantics.specs.host_data.View.{tree}
use Rattle.jessie_semantics.specs.Play.{Call, Reply, given, refused, Exchange}
use Rattle.jessie_machine.specs.declared.host.Reply.{Reply as HostReply}
use Rattle.jessie_machine.specs.declared.host.Reply.TheVariants.{Value, Refused}

abbrev pub reply_of : HostReply → Reply
reply_of (Value d) = given (tree d)
reply_of (Refused d) = refused (tree d)

abbrev pub answered_with : Call → HostReply → Exchange
answered_with c a = record { call = c; reply = reply_of a }
