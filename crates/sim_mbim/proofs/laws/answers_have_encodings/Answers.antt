use Rattle.std.proofs.Common.{rules}
use Rattle.sim_mbim.proofs.Answered.{device_caps, subscriber_ready, radio_state, home_provider, visible_providers, register_state, packet_service, connect, ip_configuration, subscribe_list, sms_read, exchange, phonebook_read}
use Rattle.sim_mbim.proofs.laws.answers_have_encodings.Goals as goal

-- those that stand here are answered by what varies, and the others are computed
pub returns : goal.returns
returns c = search (rules, device_caps, subscriber_ready, radio_state, home_provider, visible_providers, register_state, packet_service, connect, ip_configuration, subscribe_list, sms_read, exchange, phonebook_read)
