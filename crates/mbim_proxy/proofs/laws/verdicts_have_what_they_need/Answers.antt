use Rattle.mbim_proxy.proofs.Verdicts.{own_replies_are_of_the_view, shares_are_passed, forwarded_have_the_next_number, no_reply_is_forwarded}
use Rattle.mbim_proxy.proofs.laws.verdicts_have_what_they_need.Goals as goal

pub returns : goal.returns
returns c = record {
  own = own_replies_are_of_the_view;
  share = shares_are_passed;
  forwarded = forwarded_have_the_next_number;
  numbered = no_reply_is_forwarded;
}
